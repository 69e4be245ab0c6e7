use Rattle.std.proofs.Common.{◌∙◌, ap}
use Rattle.std.specs.Cmp.Lexicographic.{nat_list_cmp_total}
use Rattle.std.proofs.lemmas.Map.Lookups.{exact_bytes}
use Rattle.layer_set.specs.Named.{name_cmp, with_name}
use Rattle.layer_set.proofs.Putting.{put_over}
use Rattle.layer_set.proofs.named.take.Goals as goal

pub returns-in_err-into_own-in-Some-clause-left : goal.returns-in_err-into_own-in-Some-clause-left
returns-in_err-into_own-in-Some-clause-left g c =
    λ value. ap (λ es. with_name c.args.name.now value es) c.remove.ensures.removed
    ∙ put_over name_cmp nat_list_cmp_total exact_bytes c.args.name.now value c.args.entries.now c.count-names.ensures.order

pub returns-in_ok-into_own-in-Some-clause-left : goal.returns-in_ok-into_own-in-Some-clause-left
returns-in_ok-into_own-in-Some-clause-left g c =
    λ value. ap (λ es. with_name c.args.name.now value es) c.remove.ensures.removed
    ∙ put_over name_cmp nat_list_cmp_total exact_bytes c.args.name.now value c.args.entries.now c.count-names.ensures.order

pub returns-in-None-clause-left : goal.returns-in-None-clause-left
returns-in-None-clause-left g c =
    λ value. ap (λ es. with_name c.args.name.now value es) c.remove.ensures.removed
    ∙ put_over name_cmp nat_list_cmp_total exact_bytes c.args.name.now value c.args.entries.now c.count-names.ensures.order
