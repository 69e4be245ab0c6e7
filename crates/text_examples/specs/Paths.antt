-- Paths with their texts, texts that are no path, and what is made of paths.
use Rattle.std.specs.Prelude.{◌≡◌, ℕ, zero, suc, true, false, List, [], ◌∷◌, ◌++◌, codes, Some, None}
use Rattle.sdf_paths.specs.Paths.{printed, IsReadAs, parent, last_name, plain, owner, has_prefix, replaced}
use Rattle.sdf_paths.specs.Refusal.{IsRefusedAt}
use Rattle.sdf_paths.specs.declared.element.Element.{Element}
use Rattle.sdf_paths.specs.declared.element.Element.TheVariants.{Prim, Property, Selection}

-- a text over and over, so many times
abbrev pub times : ℕ → List ℕ → List ℕ
times zero text = []
times (suc n) text = text ++ times n text

-- /A
abbrev pub a : List Element
a = Prim (codes "A") ∷ []

-- /A/B
abbrev pub a_b : List Element
a_b = Prim (codes "A") ∷ Prim (codes "B") ∷ []

-- /A{s=v}
abbrev pub a_chosen : List Element
a_chosen = Prim (codes "A") ∷ Selection (codes "s") (codes "v") ∷ []

-- /A{s=v}B.p
abbrev pub chosen_property : List Element
chosen_property = Prim (codes "A") ∷ Selection (codes "s") (codes "v") ∷ Prim (codes "B") ∷ Property (codes "p") ∷ []

pub record PrintsAreTold : Type 0 where
  pub root : printed [] ≡ codes "/"
  pub below : printed a_b ≡ codes "/A/B"
  -- a name directly behind a selection has no `/`
  pub selected : printed chosen_property ≡ codes "/A{s=v}B.p"
  -- two sets at one prim, of which the second chooses a name with a point in front
  pub selected_twice : printed (Prim (codes "A") ∷ Selection (codes "s") (codes "v") ∷ Selection (codes "t") (codes ".w") ∷ []) ≡ codes "/A{s=v}{t=.w}"

pub record ReadingsAreTold : Type 0 where
  pub root : IsReadAs (codes "/") []
  pub selected : IsReadAs (codes "/A{s=v}B.p") chosen_property
  -- a `/` may stand behind a selection too, though it is never printed
  pub selected_slash : IsReadAs (codes "/A{s=v}/B.p") chosen_property
  -- a property's name may be joined by colons
  pub joined : IsReadAs (codes "/A.xformOp:translate") (Prim (codes "A") ∷ Property (codes "xformOp:translate") ∷ [])
  -- a variant may have digits, `|` and `-`, and begin with one of them
  pub variant : IsReadAs (codes "/A{lod=0-low|far}") (Prim (codes "A") ∷ Selection (codes "lod") (codes "0-low|far") ∷ [])
  -- `inf` names a prim, and begins the name of a property
  pub number_prim : IsReadAs (codes "/inf") (Prim (codes "inf") ∷ [])
  pub number_joined : IsReadAs (codes "/A.inf:a") (Prim (codes "A") ∷ Property (codes "inf:a") ∷ [])
  -- /É, a letter of two bytes
  pub letter : IsReadAs (47 ∷ 195 ∷ 137 ∷ []) (Prim (195 ∷ 137 ∷ []) ∷ [])

-- each with the first byte with which no path goes on, or the end
pub record RefusalsAreTold : Type 0 where
  pub empty : IsRefusedAt [] 0
  pub relative : IsRefusedAt (codes "A") 0
  pub digit : IsRefusedAt (codes "/1A") 1
  pub minus : IsRefusedAt (codes "/A-B") 2
  pub slashes : IsRefusedAt (codes "/A//B") 3
  -- the name of a prim is missing at the end
  pub last_slash : IsRefusedAt (codes "/A/") 3
  -- a selection stands behind a prim's name, and not behind `/`
  pub root_selection : IsRefusedAt (codes "/{s=v}") 1
  pub no_variant : IsRefusedAt (codes "/A{s}") 4
  pub empty_variant : IsRefusedAt (codes "/A{s=}") 5
  pub open_selection : IsRefusedAt (codes "/A{s=v") 6
  -- nothing follows a property
  pub below_property : IsRefusedAt (codes "/A.x/B") 4
  pub no_property : IsRefusedAt (codes "/A.") 3
  -- `/A.inf` goes on to a path as `/A.info`, and is none where it ends
  pub number_property : IsRefusedAt (codes "/A.inf") 6
  -- places count bytes: É has two
  pub behind_letter : IsRefusedAt (47 ∷ 195 ∷ 137 ∷ codes "-") 3
  -- the 65th prim
  pub too_deep : IsRefusedAt (times 65 (codes "/a")) 128

pub record PartsAreTold : Type 0 where
  pub parent_of_root : parent [] ≡ None
  pub parent_of_prim : parent a_b ≡ Some a
  -- above a selection stands the prim without it, and above a property its prim
  pub parent_of_selection : parent a_chosen ≡ Some a
  pub parent_of_property : parent (Prim (codes "A") ∷ Property (codes "p") ∷ []) ≡ Some a
  pub last_of_root : last_name [] ≡ None
  pub last_of_property : last_name chosen_property ≡ Some (codes "p")
  pub last_of_selection : last_name a_chosen ≡ Some (codes "v")
  pub without_selections : plain chosen_property ≡ Prim (codes "A") ∷ Prim (codes "B") ∷ Property (codes "p") ∷ []
  pub owner_of_property : owner chosen_property ≡ Prim (codes "A") ∷ Selection (codes "s") (codes "v") ∷ Prim (codes "B") ∷ []

pub record PrefixesAreTold : Type 0 where
  pub root : has_prefix [] a ≡ true
  pub itself : has_prefix a a ≡ true
  pub above : has_prefix a a_b ≡ true
  pub below : has_prefix a_b a ≡ false
  -- a prefix is one of names, and not of letters
  pub longer_name : has_prefix a (Prim (codes "AB") ∷ []) ≡ false
  pub selection : has_prefix a chosen_property ≡ true
  pub other_selection : has_prefix (Prim (codes "A") ∷ Selection (codes "s") (codes "w") ∷ []) chosen_property ≡ false
  -- /X/Y in place of /A
  pub moved : replaced a (Prim (codes "X") ∷ Prim (codes "Y") ∷ []) (Prim (codes "A") ∷ Prim (codes "B") ∷ Property (codes "p") ∷ []) ≡ Some (Prim (codes "X") ∷ Prim (codes "Y") ∷ Prim (codes "B") ∷ Property (codes "p") ∷ [])
  pub moved_whole : replaced a (Prim (codes "X") ∷ []) a ≡ Some (Prim (codes "X") ∷ [])
  pub moved_from_root : replaced [] (Prim (codes "X") ∷ []) a_b ≡ Some (Prim (codes "X") ∷ Prim (codes "A") ∷ Prim (codes "B") ∷ [])
  pub not_moved : replaced a (Prim (codes "X") ∷ []) (Prim (codes "AB") ∷ []) ≡ None

pub record AreTold : Type 0 where
  pub prints : PrintsAreTold
  pub readings : ReadingsAreTold
  pub refusals : RefusalsAreTold
  pub parts : PartsAreTold
  pub prefixes : PrefixesAreTold
