use Rattle.std.proofs.Common.{◌≡◌, drop}
use Rattle.std.specs.List.{list_any}
use Rattle.site_order.specs.Sizes.{is_frame_overgrown}
use Rattle.site_order.proofs.sizes.any_overgrown.Given as goal

abbrev pub invariant-loop-frame : goal.invariant-loop-frame
invariant-loop-frame l = list_any is_frame_overgrown (drop l.frame-index l.frames) ≡ list_any is_frame_overgrown l.frames
