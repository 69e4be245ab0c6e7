use Rattle.std.proofs.Common.{ℕ, ◌≡◌, ◌<◌, ◌∙◌, subst, sym, ap, length, List}
use Rattle.asset_names.specs.Anchoring.{anchored_name, normal_name, IsBad, IsClean, long}
use Rattle.asset_names.proofs.Normalised.{anchored_stays}
use Rattle.asset_names.proofs.name.AssetId.anchor.Goals as goal

pub returns-in_ok-anchored_name-in-None-clause-bad : goal.returns-in_ok-anchored_name-in-None-clause-bad
returns-in_ok-anchored_name-in-None-clause-bad c at h =
    let clean : IsClean c.args.asset.now = c.in-None.ensures in
    let fault = c.checked.ensures.long at h in
    subst (λ (n : ℕ). IsBad c.args.asset.now (anchored_name c.args.layer.now c.args.asset.now) n) (sym fault.0)
    (long clean.printable (subst (λ (l : List ℕ). 4096 < length l) (c.in_ok-anchored_name-in-None.ensures ∙ ap (λ l. anchored_name l c.args.asset.now) c.text.ensures.same) fault.1))

pub checked-requires : goal.checked-requires
checked-requires c =
    let is : c.in_ok-anchored_name-in-None.field-0 ≡ anchored_name c.args.layer.now c.args.asset.now =
    c.in_ok-anchored_name-in-None.ensures ∙ ap (λ l. anchored_name l c.args.asset.now) c.text.ensures.same in
    subst (λ (n : List ℕ). normal_name n ≡ n) (sym is) (anchored_stays c.args.layer.now c.args.asset.now)
