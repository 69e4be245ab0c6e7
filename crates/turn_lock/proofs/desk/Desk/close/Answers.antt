use Rattle.std.proofs.Common.{sym, refl, ap, ◌∙◌, subst, ◌<◌}
use Rattle.std.specs.Prelude.{IsSome, All}
use mathlib.Core.Option.{some-injective}
use Rattle.turn_lock.specs.Weights.{times}
use Rattle.turn_lock.proofs.Sums.{some_same}
use Rattle.turn_lock.proofs.Seats.{closes, whole_of}
use Rattle.turn_lock.proofs.desk.Desk.close.Goals as goal

pub unwrap-requires : goal.unwrap-requires
unwrap-requires g c = let seat = c.args.seat in
    let got = closes g.T.Journalled.bears g.T.Journalled.entries g.T.Journalled.named _ _ _ _ _ seat.place.me.0 (whole_of _ seat.place.me.0 seat.least seat.spare seat.spares.0 seat.spares.1 c.requires.seat.2) c.requires.seat.1.1.1 c.close_with-closed.ensures.values.2 in
    subst IsSome (sym (some-injective _ _ (sym c.take-value.ensures.value ∙ got.1))) refl

pub returns-clause-name : goal.returns-clause-name
returns-clause-name g c = let seat = c.args.seat in
    let got = closes g.T.Journalled.bears g.T.Journalled.entries g.T.Journalled.named _ _ _ _ _ seat.place.me.0 (whole_of _ seat.place.me.0 seat.least seat.spare seat.spares.0 seat.spares.1 c.requires.seat.2) c.requires.seat.1.1.1 c.close_with-closed.ensures.values.2 in
    let is = some_same got.0 c.unwrap.result (sym (some-injective _ _ (sym c.take-value.ensures.value ∙ got.1)) ∙ c.unwrap.ensures) in
    ap g.T.Journalled.named (sym is) ∙ got.2

pub returns-clause-seen : goal.returns-clause-seen
returns-clause-seen g c = let seat = c.args.seat in
    let got = closes g.T.Journalled.bears g.T.Journalled.entries g.T.Journalled.named _ _ _ _ _ seat.place.me.0 (whole_of _ seat.place.me.0 seat.least seat.spare seat.spares.0 seat.spares.1 c.requires.seat.2) c.requires.seat.1.1.1 c.close_with-closed.ensures.values.2 in
    let is = some_same got.0 c.unwrap.result (sym (some-injective _ _ (sym c.take-value.ensures.value ∙ got.1)) ∙ c.unwrap.ensures) in
    ap g.T.Journalled.entries (sym is) ∙ got.3

pub returns-clause-own : goal.returns-clause-own
returns-clause-own g c = let seat = c.args.seat in
    let got = closes g.T.Journalled.bears g.T.Journalled.entries g.T.Journalled.named _ _ _ _ _ seat.place.me.0 (whole_of _ seat.place.me.0 seat.least seat.spare seat.spares.0 seat.spares.1 c.requires.seat.2) c.requires.seat.1.1.1 c.close_with-closed.ensures.values.2 in
    let is = some_same got.0 c.unwrap.result (sym (some-injective _ _ (sym c.take-value.ensures.value ∙ got.1)) ∙ c.unwrap.ensures) in
    subst (λ x. All (λ e. 0 < times (g.T.Journalled.bears e) seat.place.me.0.mine.own) (g.T.Journalled.entries x)) is got.4

pub returns-clause-borne : goal.returns-clause-borne
returns-clause-borne g c = let seat = c.args.seat in
    let got = closes g.T.Journalled.bears g.T.Journalled.entries g.T.Journalled.named _ _ _ _ _ seat.place.me.0 (whole_of _ seat.place.me.0 seat.least seat.spare seat.spares.0 seat.spares.1 c.requires.seat.2) c.requires.seat.1.1.1 c.close_with-closed.ensures.values.2 in
    let is = some_same got.0 c.unwrap.result (sym (some-injective _ _ (sym c.take-value.ensures.value ∙ got.1)) ∙ c.unwrap.ensures) in
    subst (λ x. All (λ e. g.T.Journalled.bears e < c.args.self.table.shared.key.seats) (g.T.Journalled.entries x)) is got.5
