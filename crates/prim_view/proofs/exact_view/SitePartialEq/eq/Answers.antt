use Rattle.sdf_values.specs.Equality.{value_decided}
use Rattle.prim_view.specs.contracts.site.Site.{the_row}
use Rattle.prim_view.proofs.exact_view.SitePartialEq.eq.Goals as goal

pub returns : goal.returns
returns c = value_decided the_row.coded c.args.self.now c.args.other.now c.same_site.result c.same_site.ensures
