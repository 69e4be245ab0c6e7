-- Texts that are read as paths, and texts that are refused.
use Rattle.std.proofs.Common.{refl, [], ◌∷◌}
use Rattle.std.specs.Prelude.{codes}
use Rattle.sdf_paths.specs.Refusal.{IsRefusedAt}
use Rattle.sdf_paths.specs.Paths.{IsReadAs}
use Rattle.sdf_paths.specs.declared.element.Element.TheVariants.{Prim, Property, Selection}
use Rattle.text_examples.specs.Paths.{times, chosen_property, ReadingsAreTold, RefusalsAreTold}
use Rattle.text_examples.proofs.Computing.{of_paths}
use Rattle.text_examples.proofs.Machine.{reads, refuses}

read_root : IsReadAs (codes "/") []
unfolding of_paths
read_root = reads (codes "/") [] refl refl refl

read_selected : IsReadAs (codes "/A{s=v}B.p") chosen_property
unfolding of_paths
read_selected = reads (codes "/A{s=v}B.p") chosen_property refl refl refl

read_selected_slash : IsReadAs (codes "/A{s=v}/B.p") chosen_property
unfolding of_paths
read_selected_slash = reads (codes "/A{s=v}/B.p") chosen_property refl refl refl

read_joined : IsReadAs (codes "/A.xformOp:translate") (Prim (codes "A") ∷ Property (codes "xformOp:translate") ∷ [])
unfolding of_paths
read_joined = reads (codes "/A.xformOp:translate") (Prim (codes "A") ∷ Property (codes "xformOp:translate") ∷ []) refl refl refl

read_variant : IsReadAs (codes "/A{lod=0-low|far}") (Prim (codes "A") ∷ Selection (codes "lod") (codes "0-low|far") ∷ [])
unfolding of_paths
read_variant = reads (codes "/A{lod=0-low|far}") (Prim (codes "A") ∷ Selection (codes "lod") (codes "0-low|far") ∷ []) refl refl refl

read_number_prim : IsReadAs (codes "/inf") (Prim (codes "inf") ∷ [])
unfolding of_paths
read_number_prim = reads (codes "/inf") (Prim (codes "inf") ∷ []) refl refl refl

read_number_joined : IsReadAs (codes "/A.inf:a") (Prim (codes "A") ∷ Property (codes "inf:a") ∷ [])
unfolding of_paths
read_number_joined = reads (codes "/A.inf:a") (Prim (codes "A") ∷ Property (codes "inf:a") ∷ []) refl refl refl

read_letter : IsReadAs (47 ∷ 195 ∷ 137 ∷ []) (Prim (195 ∷ 137 ∷ []) ∷ [])
unfolding of_paths
read_letter = reads (47 ∷ 195 ∷ 137 ∷ []) (Prim (195 ∷ 137 ∷ []) ∷ []) refl refl refl

pub readings : ReadingsAreTold
readings = record {
  root = read_root;
  selected = read_selected;
  selected_slash = read_selected_slash;
  joined = read_joined;
  variant = read_variant;
  number_prim = read_number_prim;
  number_joined = read_number_joined;
  letter = read_letter;
}

empty : IsRefusedAt [] 0
unfolding of_paths
empty = refuses [] [] [] 0 refl refl refl refl refl

relative : IsRefusedAt (codes "A") 0
unfolding of_paths
relative = refuses (codes "A") [] (codes "A") 0 refl refl refl refl refl

digit : IsRefusedAt (codes "/1A") 1
unfolding of_paths
digit = refuses (codes "/1A") (codes "/") (codes "1A") 1 refl refl refl refl refl

minus : IsRefusedAt (codes "/A-B") 2
unfolding of_paths
minus = refuses (codes "/A-B") (codes "/A") (codes "-B") 2 refl refl refl refl refl

slashes : IsRefusedAt (codes "/A//B") 3
unfolding of_paths
slashes = refuses (codes "/A//B") (codes "/A/") (codes "/B") 3 refl refl refl refl refl

last_slash : IsRefusedAt (codes "/A/") 3
unfolding of_paths
last_slash = refuses (codes "/A/") (codes "/A/") [] 3 refl refl refl refl refl

root_selection : IsRefusedAt (codes "/{s=v}") 1
unfolding of_paths
root_selection = refuses (codes "/{s=v}") (codes "/") (codes "{s=v}") 1 refl refl refl refl refl

no_variant : IsRefusedAt (codes "/A{s}") 4
unfolding of_paths
no_variant = refuses (codes "/A{s}") (codes "/A{s") (codes "}") 4 refl refl refl refl refl

empty_variant : IsRefusedAt (codes "/A{s=}") 5
unfolding of_paths
empty_variant = refuses (codes "/A{s=}") (codes "/A{s=") (codes "}") 5 refl refl refl refl refl

open_selection : IsRefusedAt (codes "/A{s=v") 6
unfolding of_paths
open_selection = refuses (codes "/A{s=v") (codes "/A{s=v") [] 6 refl refl refl refl refl

below_property : IsRefusedAt (codes "/A.x/B") 4
unfolding of_paths
below_property = refuses (codes "/A.x/B") (codes "/A.x") (codes "/B") 4 refl refl refl refl refl

no_property : IsRefusedAt (codes "/A.") 3
unfolding of_paths
no_property = refuses (codes "/A.") (codes "/A.") [] 3 refl refl refl refl refl

number_property : IsRefusedAt (codes "/A.inf") 6
unfolding of_paths
number_property = refuses (codes "/A.inf") (codes "/A.inf") [] 6 refl refl refl refl refl

behind_letter : IsRefusedAt (47 ∷ 195 ∷ 137 ∷ codes "-") 3
unfolding of_paths
behind_letter = refuses (47 ∷ 195 ∷ 137 ∷ codes "-") (47 ∷ 201 ∷ []) (codes "-") 3 refl refl refl refl refl

too_deep : IsRefusedAt (times 65 (codes "/a")) 128
unfolding of_paths
too_deep = refuses (times 65 (codes "/a")) (times 64 (codes "/a")) (codes "/a") 128 refl refl refl refl refl

pub refusals : RefusalsAreTold
refusals = record {
  empty = empty;
  relative = relative;
  digit = digit;
  minus = minus;
  slashes = slashes;
  last_slash = last_slash;
  root_selection = root_selection;
  no_variant = no_variant;
  empty_variant = empty_variant;
  open_selection = open_selection;
  below_property = below_property;
  no_property = no_property;
  number_property = number_property;
  behind_letter = behind_letter;
  too_deep = too_deep;
}
