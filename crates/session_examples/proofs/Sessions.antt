-- A session's replies: they compute.
use Rattle.std.proofs.Common.{refl}
use Rattle.std.specs.Fmt.{digits}
use Rattle.compose_api.specs.Stage.{walked, stage_of}
use Rattle.composition.specs.Compose.{meaning}
use Rattle.layer_apply.specs.Edits.{in_layer, edit}
use Rattle.layer_edit.specs.Outcomes.{passing, given}
use Rattle.layer_edit.specs.Places.{has_spec, changed_spec}
use Rattle.layer_edit.specs.Prims.{with_new_spec, prim_added, removed}
use Rattle.stage_questions.specs.Replies.{refused_word}
use Rattle.stage_session.specs.Sessions.{stage_after, view_at, entry_at}
use Rattle.session_examples.specs.Sessions.{BatchesAreTold, PublishesAreTold, AreTold}

-- what has to be unfolded for batches and stages to compute
unfoldable of_sessions : Unit {0}
unfolding digits walked stage_of meaning in_layer edit passing given has_spec changed_spec with_new_spec prim_added removed view_at entry_at refused_word stage_after
of_sessions = tt

batches : BatchesAreTold
unfolding of_sessions
batches = record {
  opened = refl;
  accepted = refl;
  once_more = refl;
  refused = refl;
  after_refused = refl;
}

publishes : PublishesAreTold
unfolding of_sessions
publishes = record {
  before = refl;
  published = refl;
  behind = refl;
  published_again = refl;
}

pub are_told : AreTold
are_told = record { batches = batches; publishes = publishes }
