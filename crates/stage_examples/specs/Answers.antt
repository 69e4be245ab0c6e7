-- Questions on a small stage, with their answers.
use Rattle.std.specs.Prelude.{◌≡◌, ◌*◌, ◌^◌, pos, negsuc, [], ◌∷◌, codes, Some, None}
use Rattle.prim_view.specs.declared.view.PrimView.{PrimView}
use Rattle.sdf_paths.specs.declared.element.Element.TheVariants.{Prim, Property, Selection}
use Rattle.sdf_values.specs.declared.value.Value.TheVariants as value
use Rattle.spec_parts.specs.declared.items.Specifier.TheVariants.{Def, Over}
use Rattle.stage_query.specs.Answers.{Stage, value_answer, default_answer, samples_answer, targets_answer, children_answer, view_answer}
use Rattle.stage_query.specs.declared.answer.Answer.TheVariants.{Is, NoPrim, NoProperty, NoValue, Blocked}
use Rattle.stage_examples.specs.Flattening.{blank_view, whole, time, int_attribute, targeting, a, a_k, b}

-- the prim
--   def "A"
--   {
--       int d = 5
--       int blocked = None
--       int n
--       int x = 9
--       int x.timeSamples = {10: 1, 20: 2}
--       int s.timeSamples = {10: 1, 20: None}
--       int over = None
--       int over.timeSamples = {10: 1}
--       int c.connect = </A.d>
--       rel r = [</A/k>, </B>]
--       rel e = None
--       rel q
--
--       def "k" {}
--   }
abbrev pub prim_a : PrimView
prim_a = record (blank_view Def) {
  properties =
      int_attribute (codes "d") (Some (whole 5)) [] None
      ∷ int_attribute (codes "blocked") (Some value.Block) [] None
      ∷ int_attribute (codes "n") None [] None
      ∷ int_attribute (codes "x") (Some (whole 9)) ((time 10, whole 1) ∷ (time 20, whole 2) ∷ []) None
      ∷ int_attribute (codes "s") None ((time 10, whole 1) ∷ (time 20, value.Block) ∷ []) None
      ∷ int_attribute (codes "over") (Some value.Block) ((time 10, whole 1) ∷ []) None
      ∷ int_attribute (codes "c") None [] (Some ((Prim (codes "A") ∷ Property (codes "d") ∷ []) ∷ []))
      ∷ targeting (codes "r") (Some (a_k ∷ b ∷ []))
      ∷ targeting (codes "e") (Some [])
      ∷ targeting (codes "q") None
      ∷ [];
  children = codes "k" ∷ [];
}

-- the stage of this prim; there is no /B
abbrev pub stage : Stage
stage = ([], record (blank_view Over) { children = codes "A" ∷ [] }) ∷ (a, prim_a) ∷ (a_k, blank_view Def) ∷ []

pub record PrimsAreTold : Type 0 where
  pub children : children_answer a stage ≡ Is (codes "k" ∷ [])
  pub root_prims : children_answer [] stage ≡ Is (codes "A" ∷ [])
  -- a prim without children has the empty list, and a path without a prim none
  pub leaf : children_answer a_k stage ≡ Is []
  pub no_prim : children_answer b stage ≡ NoPrim
  pub no_child : children_answer (Prim (codes "A") ∷ Prim (codes "m") ∷ []) stage ≡ NoPrim
  -- the stage has prims: no properties, and no variants
  pub property : children_answer (Prim (codes "A") ∷ Property (codes "d") ∷ []) stage ≡ NoPrim
  pub selection : children_answer (Prim (codes "A") ∷ Selection (codes "s") (codes "x") ∷ []) stage ≡ NoPrim
  pub view : view_answer a_k stage ≡ Is (blank_view Def)
  pub no_view : view_answer b stage ≡ NoPrim
  -- a list without items has no view of `/` either
  pub nothing : view_answer [] [] ≡ NoPrim

pub record DefaultsAreTold : Type 0 where
  pub default : default_answer a (codes "d") stage ≡ Is (whole 5)
  -- samples do not hide the default
  pub sampled : default_answer a (codes "x") stage ≡ Is (whole 9)
  pub blocked : default_answer a (codes "blocked") stage ≡ Blocked
  -- an attribute that is declared has no value, and one with samples alone has no default
  pub declared : default_answer a (codes "n") stage ≡ NoValue
  pub samples_alone : default_answer a (codes "s") stage ≡ NoValue
  -- a relationship has no value at all, so it counts as no attribute
  pub relationship : default_answer a (codes "r") stage ≡ NoProperty
  -- names are whole names: `over` is one, and `ove` and `overs` are none
  pub shorter_name : default_answer a (codes "ove") stage ≡ NoProperty
  pub longer_name : default_answer a (codes "overs") stage ≡ NoProperty
  pub no_prim : default_answer b (codes "d") stage ≡ NoPrim

-- nothing is interpolated
pub record ValuesAreTold : Type 0 where
  pub at_a_sample : value_answer a (codes "x") (time 20) stage ≡ Is (whole 2)
  -- between two samples, at 19.5, the earlier holds
  pub between : value_answer a (codes "x") (pos (195 * 10 ^ 17)) stage ≡ Is (whole 1)
  -- before the first sample the first, and behind the last the last
  pub before : value_answer a (codes "x") (time 0) stage ≡ Is (whole 1)
  pub negative : value_answer a (codes "x") (negsuc 0) stage ≡ Is (whole 1)
  pub behind : value_answer a (codes "x") (time 100) stage ≡ Is (whole 2)
  -- a blocked sample holds too, until the next one
  pub before_a_block : value_answer a (codes "s") (time 15) stage ≡ Is (whole 1)
  pub at_a_block : value_answer a (codes "s") (time 20) stage ≡ Blocked
  pub behind_a_block : value_answer a (codes "s") (time 30) stage ≡ Blocked
  -- a default is the value at each time, where there are no samples
  pub default : value_answer a (codes "d") (time 7) stage ≡ Is (whole 5)
  pub blocked : value_answer a (codes "blocked") (time 7) stage ≡ Blocked
  -- where there are, it counts for nothing, though it is a block
  pub over_a_block : value_answer a (codes "over") (time 7) stage ≡ Is (whole 1)
  pub declared : value_answer a (codes "n") (time 7) stage ≡ NoValue
  pub relationship : value_answer a (codes "r") (time 7) stage ≡ NoProperty
  pub no_property : value_answer a (codes "y") (time 7) stage ≡ NoProperty
  pub no_prim : value_answer b (codes "d") (time 7) stage ≡ NoPrim

pub record SamplesAreTold : Type 0 where
  pub samples : samples_answer a (codes "x") stage ≡ Is ((time 10, whole 1) ∷ (time 20, whole 2) ∷ [])
  -- a blocked sample is one of them
  pub with_a_block : samples_answer a (codes "s") stage ≡ Is ((time 10, whole 1) ∷ (time 20, value.Block) ∷ [])
  -- a default is no sample, and a blocked one does not block samples
  pub default : samples_answer a (codes "d") stage ≡ NoValue
  pub blocked : samples_answer a (codes "blocked") stage ≡ NoValue
  pub relationship : samples_answer a (codes "r") stage ≡ NoProperty
  pub no_property : samples_answer a (codes "y") stage ≡ NoProperty
  pub no_prim : samples_answer b (codes "x") stage ≡ NoPrim

pub record TargetsAreTold : Type 0 where
  -- targets are told whether or not prims stand there
  pub targets : targets_answer a (codes "r") stage ≡ Is (a_k ∷ b ∷ [])
  -- those of an attribute are its connections
  pub connections : targets_answer a (codes "c") stage ≡ Is ((Prim (codes "A") ∷ Property (codes "d") ∷ []) ∷ [])
  -- an explicit empty list is an opinion, and no list is none
  pub empty : targets_answer a (codes "e") stage ≡ Is []
  pub no_opinion : targets_answer a (codes "q") stage ≡ NoValue
  pub no_connections : targets_answer a (codes "d") stage ≡ NoValue
  pub no_property : targets_answer a (codes "y") stage ≡ NoProperty
  pub no_prim : targets_answer b (codes "r") stage ≡ NoPrim

pub record AreTold : Type 0 where
  pub prims : PrimsAreTold
  pub defaults : DefaultsAreTold
  pub values : ValuesAreTold
  pub samples : SamplesAreTold
  pub targets : TargetsAreTold
