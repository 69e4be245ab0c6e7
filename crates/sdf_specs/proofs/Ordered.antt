-- What tables by path answer under the order of paths that the keys compare by, in the words of layers.
use Rattle.std.proofs.Common.{◌≡◌, ◌∙◌, ap, subst, List}
use Rattle.std.specs.declared.cmp.Ordering.{Ordering}
use Rattle.sdf_paths.specs.Order.{path_cmp}
use Rattle.sdf_paths.specs.PathOrder.{order_is}
use Rattle.sdf_paths.specs.contracts.path.PathOrd.TheImpl.{ghosts as path_order}
use Rattle.sdf_paths.specs.declared.element.Element.{Element}
use Rattle.spec_tables.specs.Tables.{IsTable, at_key, with_key, with_value, without_key, entries_from}
use Rattle.spec_parts.specs.declared.spec.Head.{Head}
use Rattle.spec_parts.specs.declared.spec.Spec.{Spec}
use Rattle.sdf_specs.specs.Layers.{PathEntries, SpecEntries, LayerTable, AreSpecs, spec_at, with_spec, with_spec_for, specs_from}

module _ {V : Type 0} (path : List Element) (specs : PathEntries V) where
  pub at_is : at_key path_order.cmp path specs ≡ spec_at path specs
  at_is = ap (λ (R : List Element → List Element → Ordering). at_key R path specs) order_is

  pub with_is : (spec : V) → with_key path_order.cmp path spec specs ≡ with_spec path spec specs
  with_is spec = ap (λ (R : List Element → List Element → Ordering). with_key R path spec specs) order_is

  pub with_for_is : (spec : V) → with_value path_order.cmp path spec specs ≡ with_spec_for path spec specs
  with_for_is spec = ap (λ (R : List Element → List Element → Ordering). with_value R path spec specs) order_is

  pub without_is : without_key path_order.cmp path specs ≡ without_key path_cmp path specs
  without_is = ap (λ (R : List Element → List Element → Ordering). without_key R path specs) order_is

  pub from_is : entries_from path_order.cmp path specs ≡ specs_from path specs
  from_is = ap (λ (R : List Element → List Element → Ordering). entries_from R path specs) order_is

pub in_order : {V : Type 0} (specs : PathEntries V) → IsTable path_order.cmp specs → IsTable path_cmp specs
in_order specs h = subst (λ (R : List Element → List Element → Ordering). IsTable R specs) order_is h

-- a layer's table, from the parts that the code holds
module _ (head : Head) (specs : SpecEntries) (t : LayerTable) (view : ◌≡◌ {A = LayerTable} (record { head = head; specs = specs }) t) where
  pub ordered_view : IsTable path_order.cmp specs → AreSpecs t.specs
  ordered_view h = subst (λ (l : LayerTable). AreSpecs l.specs) view (in_order specs h)

  pub at_view : (path : List Element) → at_key path_order.cmp path specs ≡ spec_at path t.specs
  at_view path = at_is path specs ∙ ap (λ (l : LayerTable). spec_at path l.specs) view

  pub from_view : (path : List Element) → entries_from path_order.cmp path specs ≡ specs_from path t.specs
  from_view path = from_is path specs ∙ ap (λ (l : LayerTable). specs_from path l.specs) view

  pub with_view : (path : List Element) (spec : Spec) (after : SpecEntries) → after ≡ with_key path_order.cmp path spec specs
      → ◌≡◌ {A = LayerTable} (record { head = head; specs = after }) (record { head = t.head; specs = with_spec path spec t.specs })
  with_view path spec after e =
      ap (λ (s : SpecEntries). let l : LayerTable = record { head = head; specs = s } in l) (e ∙ with_is path specs spec)
      ∙ ap (λ (l : LayerTable). let m : LayerTable = record { head = l.head; specs = with_spec path spec l.specs } in m) view

  pub with_for_view : (path : List Element) (spec : Spec) (after : SpecEntries) → after ≡ with_value path_order.cmp path spec specs
      → ◌≡◌ {A = LayerTable} (record { head = head; specs = after }) (record { head = t.head; specs = with_spec_for path spec t.specs })
  with_for_view path spec after e =
      ap (λ (s : SpecEntries). let l : LayerTable = record { head = head; specs = s } in l) (e ∙ with_for_is path specs spec)
      ∙ ap (λ (l : LayerTable). let m : LayerTable = record { head = l.head; specs = with_spec_for path spec l.specs } in m) view

  -- other specs beside the same head
  pub with_specs : (next : SpecEntries → SpecEntries) (after : SpecEntries) → after ≡ next specs
      → ◌≡◌ {A = LayerTable} (record { head = head; specs = after }) (record { head = t.head; specs = next t.specs })
  with_specs next after e =
      ap (λ (s : SpecEntries). let l : LayerTable = record { head = head; specs = s } in l) e
      ∙ ap (λ (l : LayerTable). let m : LayerTable = record { head = l.head; specs = next l.specs } in m) view

  pub same_specs : (after : SpecEntries) → after ≡ specs → ◌≡◌ {A = LayerTable} (record { head = head; specs = after }) t
  same_specs after e = ap (λ (s : SpecEntries). let l : LayerTable = record { head = head; specs = s } in l) e ∙ view

  pub about_specs : {A : Type 0} (f : SpecEntries → A) → f specs ≡ f t.specs
  about_specs f = ap (λ (l : LayerTable). f l.specs) view
