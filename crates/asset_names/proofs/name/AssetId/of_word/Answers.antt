use Rattle.std.proofs.Common.{ℕ, ◌≡◌, ◌<◌, subst, sym, length, List}
use Rattle.asset_names.specs.Anchoring.{normal_name, IsBad, IsClean, long}
use Rattle.asset_names.proofs.Normalised.{normal_stays}
use Rattle.asset_names.proofs.name.AssetId.of_word.Goals as goal

pub returns-in_ok-normal_name-in-None-clause-bad : goal.returns-in_ok-normal_name-in-None-clause-bad
returns-in_ok-normal_name-in-None-clause-bad c at h =
    let clean : IsClean c.args.word.now = c.in-None.ensures in
    let fault = c.checked.ensures.long at h in
    subst (λ (n : ℕ). IsBad c.args.word.now (normal_name c.args.word.now) n) (sym fault.0)
    (long clean.printable (subst (λ (l : List ℕ). 4096 < length l) c.in_ok-normal_name-in-None.ensures fault.1))

pub checked-requires : goal.checked-requires
checked-requires c = subst (λ (n : List ℕ). normal_name n ≡ n) (sym c.in_ok-normal_name-in-None.ensures) (normal_stays c.args.word.now)
