-- The tree of a draft, and how it follows the grammar.
use Rattle.std.specs.Prelude.{◌≡◌, ◌+◌, true, false, List, [], ◌∷◌, ◌++◌, length}
use Rattle.text_syntax.specs.Open.{Follows as ValueFollows}
use Rattle.usda_drafts.specs.declared.draft.Draft.{Draft}
use Rattle.usda_drafts.specs.declared.owner.Owner.{Owner}
use Rattle.usda_grammar.specs.declared.symbols.Symbol.{Symbol}
use Rattle.usda_statements.specs.OpenValues.{is_open}
use Rattle.usda_statements.specs.PropertyDrafts.{is_in_hand}
use Rattle.trees_read.specs.Stacks.{ends, has_end, names, AreBalanced, awaits_body, have_bodies, are_held}
use Rattle.trees_read.specs.Trees.{Frame, Tree, IsSound}

-- what is known of an owner
abbrev pub frame_of : Owner → Frame
frame_of o = record {
  path = o.said.path;
  specifier = o.said.spec.body.specifier;
  type_name = o.type_name;
  children = o.children;
  properties = o.properties;
  sets = o.sets;
  set_names = o.set_names;
  set = o.set;
}

-- the frames of these owners, of which the last is the innermost
abbrev pub frames : List Owner → List Frame
frames [] = []
frames (o ∷ outer) = frames outer ++ frame_of o ∷ []

-- the specs of a draft, and the frames of its owners
abbrev pub tree_of : Draft → Tree
tree_of d = record { specs = d.specs; owners = frame_of d.owner ∷ frames d.outer }

-- As many owners are open round the innermost one as bodies are still to be closed, but for a prim that has no name yet. Behind the name
-- of a prim that would be too deep, its metadata or its body comes next. A property is in hand only in a body.
pub record IsNested (stack : List Symbol) (d : Draft) : Type 0 where
  pub held : are_held false stack ≡ true
  pub balanced : AreBalanced stack
  pub bodies : have_bodies stack ≡ true
  pub counted : d.opening.is_too_deep ≡ false → length d.outer + names stack ≡ ends stack
  pub too_deep : d.opening.is_too_deep ≡ true → awaits_body stack ≡ true
  pub in_hand : is_in_hand d.property ≡ true → has_end stack ≡ true

-- what is open is what the grammar still awaits, and the tree is proper as far as it is read
pub record Follows (stack : List Symbol) (d : Draft) : Type 0 where
  pub value : ValueFollows stack d
  pub nested : IsNested stack d
  pub sound : IsSound (tree_of d)

-- no prim and no variant is open, no property is in hand, and no value is open
pub record IsOver (d : Draft) : Type 0 where
  pub outer : d.outer ≡ []
  pub property : is_in_hand d.property ≡ false
  pub value : is_open d.value ≡ false
