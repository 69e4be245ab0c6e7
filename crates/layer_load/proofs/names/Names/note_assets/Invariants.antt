use Rattle.std.proofs.Common.{◌≡◌, drop, fold}
use Rattle.layer_load.specs.Drafts.{AreMet}
use Rattle.layer_load.specs.Opening.{with_asset}
use Rattle.layer_load.proofs.names.Names.note_assets.Given as goal

abbrev pub invariant-loop-asset : goal.invariant-loop-asset
invariant-loop-asset l = record {
  met : AreMet l.self;
  listed : fold (with_asset l.layer) l.self.listed (drop l.asset-index l.assets) ≡ fold (with_asset l.layer) l.fn.self.listed l.assets;
}
