use Rattle.std.proofs.Common.{◌≡◌, refl, sym, ap, ◌∙◌, Bool, Some, None}
use Rattle.sdf_values.specs.declared.type_name.ElementType.{ElementType}
use Rattle.sdf_values.specs.declared.type_name.TypeName.{TypeName}
use Rattle.sdf_values.specs.declared.type_name.TheConstants.{ELEMENTS}
use Rattle.sdf_values.proofs.Elements.{named, found_name}
use Rattle.sdf_values.proofs.type_name.TypeName.find.Goals as goal

pub returns-in_err-element-clause-none : goal.returns-in_err-element-clause-none
returns-in_err-element-clause-none c _ e is = let p : None ≡ Some e = c.in_err-element.ensures ∙ named e c.args.name.now is in absurd cc

pub returns-in_err-element-clause-own : goal.returns-in_err-element-clause-own
returns-in_err-element-clause-own c t is array = let p : None ≡ Some t.element = c.in_err-element.ensures ∙ named t.element c.args.name.now is in absurd cc

one_option : (a b : ElementType) → Some a ≡ Some b → a ≡ b
one_option a b h = cc

same_type : (e : ElementType) (array : Bool) (t : TypeName) → e ≡ t.element → t.array ≡ array → record { element = e; array = array } ≡ t
same_type e array t p q = ap (λ (x : ElementType). record { element = x; array = array }) p ∙ ap (λ (b : Bool). record { element = t.element; array = b }) (sym q)

pub returns-clause-own : goal.returns-clause-own
returns-clause-own c t is array =
    ap Some (same_type c.in_ok-element.element c.args.array t (one_option c.in_ok-element.element t.element (c.in_ok-element.ensures ∙ named t.element c.args.name.now is)) array)

pub returns-clause-found : goal.returns-clause-found
returns-clause-found c = (found_name ELEMENTS c.args.name.now c.in_ok-element.element (sym c.in_ok-element.ensures), refl)
