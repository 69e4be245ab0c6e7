-- Edits of an attribute, by whether one is there.
use Rattle.std.proofs.Common.{◌≡◌, sym, ap, refl, subst, not, List, [], ◌∷◌, Option, Some, None, Result, Ok, Err}
use Rattle.sdf_paths.specs.declared.element.Element.{Element}
use Rattle.sdf_specs.specs.Layers.{LayerTable}
use Rattle.sdf_values.specs.declared.type_name.TypeName.{TypeName}
use Rattle.layer_edit.specs.Outcomes.{Made, first_fault, unless, passing, given, Gives, Does}
use Rattle.layer_edit.specs.Places.{is_property_path, property_in}
use Rattle.layer_edit.specs.Properties.{type_of, at_attribute}
use Rattle.edit_batches.specs.declared.fault.EditFault.{EditFault}
use Rattle.edit_batches.specs.declared.fault.EditFault.TheVariants.{WrongPath, NoSpec}
use Rattle.edit_batches.specs.declared.fault.OpRefused.{OpRefused}
use Rattle.edit_batches.specs.declared.fault.OpRefused.TheVariants as refused

module _ {A : Type 0} (make : TypeName → Made A) where
  abbrev by_type : Option EditFault → Option TypeName → Made A
  by_type f ty = unless f (given NoSpec ty make)

  -- the type is found: what is made of it is made
  found : (f : Option EditFault) (o : Option TypeName) (ty : TypeName) → unless f (given NoSpec o (λ t. Ok t)) ≡ Ok ty → by_type f o ≡ make ty
  unfolding given
  found None None ty h = absurd cc
  found None (Some t) ty h = let e : t ≡ ty = cc in ap make e
  found (Some f) o ty h = absurd cc

  -- no type is found: the fault is told
  missed : (f : Option EditFault) (o : Option TypeName) (fault : EditFault) → unless f (given NoSpec o (λ t. Ok t)) ≡ Err fault → by_type f o ≡ Err fault
  unfolding given
  missed None None fault h = let e : NoSpec ≡ fault = cc in ap Err e
  missed None (Some t) fault h = absurd cc
  missed (Some f) o fault h = let e : f ≡ fault = cc in ap Err e

  pub attribute_found : (path : List Element) (layer : LayerTable) (ty : TypeName) → at_attribute path layer (λ t. Ok t) ≡ Ok ty → at_attribute path layer make ≡ make ty
  unfolding passing
  attribute_found path layer ty h = found (first_fault ((not (is_property_path path), WrongPath) ∷ [])) (type_of (property_in path layer)) ty h

  pub attribute_missed : (path : List Element) (layer : LayerTable) (fault : EditFault) → at_attribute path layer (λ t. Ok t) ≡ Err fault → at_attribute path layer make ≡ Err fault
  unfolding passing
  attribute_missed path layer fault h = missed (first_fault ((not (is_property_path path), WrongPath) ∷ [])) (type_of (property_in path layer)) fault h

module _ {A : Type 0} (make : TypeName → Made A) where
  pub does_missed : (e : OpRefused) (path : List Element) (layer : LayerTable) (kept : A) → Gives {A = TypeName} (Err e) (at_attribute path layer (λ t. Ok t)) → Does (Err e) kept kept (at_attribute path layer make)
  does_missed (refused.Fault fault) path layer kept h = (attribute_missed make path layer fault h, refl)
  does_missed refused.NoMemory path layer kept h = tt

  pub does_found : (r : Result (Unit {0}) OpRefused) (path : List Element) (layer : LayerTable) (old after : A) (ty : TypeName) → at_attribute path layer (λ t. Ok t) ≡ Ok ty → Does r old after (make ty) → Does r old after (at_attribute path layer make)
  does_found r path layer old after ty h does = subst (λ (m : Made A). Does r old after m) (sym (attribute_found make path layer ty h)) does
