use Rattle.std.proofs.Common.{◌≡◌, ◌≤◌, ◌+◌, ◌++◌, List, Option, Some, false, arith, length, ap, sym, ◌∙◌, subst}
use Rattle.std.specs.Option.{IsSomeAnd, option_map}
use Rattle.sdf_paths.specs.Paths.{IsPath, IsRefusal, rest_after, replaced, written_all, depth, MayFollow}
use Rattle.sdf_paths.specs.declared.element.Element.{Element}
use Rattle.sdf_paths.specs.declared.fault.PathFault.{PathFault}
use Rattle.sdf_paths.proofs.Shapes.{rest_length, rest_few, joined_path}
use Rattle.sdf_paths.proofs.path.Path.replace_prefix.Goals as goal

-- the same at other names of the lists
renamed : (front front' path path' rest : List Element) → Some rest ≡ rest_after front path → front ≡ front' → path ≡ path' → Some rest ≡ rest_after front' path'
renamed front front' path path' rest h e f = h ∙ ap (λ l. rest_after l path) e ∙ ap (rest_after front') f

-- the path that was to be made is none, or is one
refused : (front by path rest : List Element) (e : PathFault) → Some rest ≡ rest_after front path → IsRefusal (by ++ rest) e → IsSomeAnd (replaced front by path) (λ p. IsRefusal p e)
refused front by path rest e is h = subst (λ (o : Option (List Element)). IsSomeAnd (option_map (λ r. by ++ r) o) (λ p. IsRefusal p e)) is h

pub fits-requires-clause-rest : goal.fits-requires-clause-rest
fits-requires-clause-rest c =
    let is = renamed _ c.args.front.now _ c.args.self.now c.in-Some.rest.now c.in-Some.ensures (c.as_slice.ensures ∙ c.front.view_is) (c.as_slice-elements.ensures ∙ c.self.view_is) in
    rest_length c.args.front.now c.args.self.now c.in-Some.rest.now (subst IsPath c.self.view_is c.self.invariant) is

pub fits-requires-clause-names : goal.fits-requires-clause-names
fits-requires-clause-names c =
    let is = renamed _ c.args.front.now _ c.args.self.now c.in-Some.rest.now c.in-Some.ensures (c.as_slice.ensures ∙ c.front.view_is) (c.as_slice-elements.ensures ∙ c.self.view_is) in
    omega (arith, rest_few c.args.front.now c.args.self.now c.in-Some.rest.now (subst IsPath c.self.view_is c.self.invariant) is, c.by.invariant.well_formed.few, ap depth c.as_slice-2.ensures)

made : (front by by' path rest : List Element) → IsPath by → IsPath path → Some rest ≡ rest_after front path → MayFollow by rest → by' ≡ by
    → depth by' + depth rest ≤ 64 → length (written_all false (by' ++ rest)) ≤ 4096 → IsPath (by ++ rest)
made front by by' path rest good whole is may e few short =
    joined_path front by path rest good whole is may (omega (arith, few, ap depth e)) (omega (arith, short, ap (λ (es : List Element). length (written_all false (es ++ rest))) e))

pub invariant_of-result : goal.invariant_of-result
invariant_of-result c =
    let is = renamed _ c.args.front.now _ c.args.self.now c.in-Some.rest.now c.in-Some.ensures (c.as_slice.ensures ∙ c.front.view_is) (c.as_slice-elements.ensures ∙ c.self.view_is) in
    subst IsPath (sym (c.in-Ok.ensures.ok ∙ ap (λ (es : List Element). es ++ c.in-Some.rest.now) c.by.view_is))
    (made c.args.front.now c.args.by.now c.as_slice-2.result.now c.args.self.now c.in-Some.rest.now (subst IsPath c.by.view_is c.by.invariant) (subst IsPath c.self.view_is c.self.invariant) is
    (c.requires c.in-Some.rest.now (sym is)) (c.as_slice-2.ensures ∙ c.by.view_is) (c.fits.ensures.few c.if-not-fits.false) (c.fits.ensures.short c.if-not-fits.false))

pub returns-in-Err-clause-bad : goal.returns-in-Err-clause-bad
returns-in-Err-clause-bad c =
    let is = renamed _ c.args.front.now _ c.args.self.now c.in-Some.rest.now c.in-Some.ensures (c.as_slice.ensures ∙ c.front.view_is) (c.as_slice-elements.ensures ∙ c.self.view_is) in
    refused c.args.front.now c.args.by.now c.args.self.now c.in-Some.rest.now c.in-Err.fault is
    (subst (IsRefusal (c.args.by.now ++ c.in-Some.rest.now)) (sym c.in-Err.ensures.err)
    (made c.args.front.now c.args.by.now c.as_slice-2.result.now c.args.self.now c.in-Some.rest.now (subst IsPath c.by.view_is c.by.invariant) (subst IsPath c.self.view_is c.self.invariant) is
    (c.requires c.in-Some.rest.now (sym is)) (c.as_slice-2.ensures ∙ c.by.view_is) (c.fits.ensures.few c.if-not-fits.false) (c.fits.ensures.short c.if-not-fits.false)))
