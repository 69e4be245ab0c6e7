use Rattle.std.proofs.Common.{◌≡◌, ◌∙◌, ◌-◌, sym, ap, refl, subst, arith, ℕ, take, [], ◌∷◌, ◌++◌, Err}
use Rattle.std.specs.List.{slice_get}
use Rattle.std.proofs.lemmas.Result.{err_from_is_err_and}
use Rattle.layer_load.specs.Drafts.{opening_of}
use Rattle.layer_load.specs.Opening.{assets_of, by_turn}
use Rattle.layer_load.specs.declared.fault.LoadFault.TheVariants.{WorldTooLarge}
use Rattle.layer_load.proofs.Apart.{not_before}
use Rattle.layer_load.proofs.Asking.{AskedSoFar, asked_first, asked_met, asked_next, has_of_take, nothing_asked, one_turn_more, turn_within}
use Rattle.layer_load.proofs.Known.{no_memory, known_end, known_last}
use Rattle.layer_load.proofs.Loop.{begun_apart, begun_known, still_apart, next_known, fault_opens}
use Rattle.layer_load.proofs.Noting.{more}
use Rattle.layer_load.proofs.load.load_within.Goals as goal

pub returns-in_err-draft-clause-opens : goal.returns-in_err-draft-clause-opens
returns-in_err-draft-clause-opens g c =
    let p = err_from_is_err_and c.from_residual.result c.from_residual.ensures.1 in
    rw (p.1, p.2) (no_memory (g.F.LayerFiles.files c.args.files.now) c.args.most c.args.root c.args.session)

pub loop-place-init : goal.loop-place-init
loop-place-init g c = record {
  met = c.in_ok-draft.ensures.met;
  apart = begun_apart c.args.root c.args.session (opening_of c.in_ok-draft.draft) c.in_ok-draft.ensures.begun;
  known = begun_known (g.F.LayerFiles.files c.args.files.now) c.args.most c.args.root c.args.session (opening_of c.in_ok-draft.draft) c.in_ok-draft.ensures.begun;
  same = refl;
  asked = asked_first (g.F.LayerFiles.asked c.args.files.now) _;
  steady = refl;
}

pub returns-in-None-clause-opens : goal.returns-in-None-clause-opens
returns-in-None-clause-opens g c =
    let s = opening_of c.loop-place.draft in
    rw c.finished.ensures
    (known_end (g.F.LayerFiles.files c.args.files.now) c.args.most c.args.root c.args.session (c.args.most - c.loop-place.place) c.loop-place.place s c.loop-place.invariant.known
    (sym c.in_ok-name.ensures ∙ c.in-None.is))

pub returns-in-Err-clause-opens : goal.returns-in-Err-clause-opens
returns-in-Err-clause-opens g c =
    let i = c.loop-place.invariant in
    fault_opens (g.F.LayerFiles.files c.args.files.now) (g.F.LayerFiles.files c.loop-place.files) c.args.most c.loop-place.place c.args.root c.args.session
    (opening_of c.loop-place.draft) (opening_of c.take_turn.new.draft) c.in-Some.name c.loop-place-test.true i.same (sym c.in-Some.is ∙ c.in_ok-name.ensures) i.apart i.known
    c.in-Err.fault c.in-Err.ensures.turn

pub loop-place-preserved : goal.loop-place-preserved
loop-place-preserved g c =
    let i = c.loop-place.invariant in
    let e = c.in-Ok.ensures in
    record {
      met = e.met;
      apart = still_apart c.loop-place.draft.names.listed c.take_turn.new.draft.names.listed c.in-Some.name e.names.0 e.names.1 i.apart;
      known = next_known (g.F.LayerFiles.files c.args.files.now) (g.F.LayerFiles.files c.loop-place.files) c.args.most c.loop-place.place c.args.root c.args.session
          (opening_of c.loop-place.draft) (opening_of c.take_turn.new.draft) c.in-Some.name c.loop-place-test.true i.same (sym c.in-Some.is ∙ c.in_ok-name.ensures) i.apart i.known
          e.names.0 e.names.1 e.turn;
      same = e.same ∙ i.same;
      asked =
          let some = sym c.in-Some.is ∙ c.in_ok-name.ensures in
          let s = c.loop-place.draft.names.listed in
          let m = more c.in-Some.name (assets_of e.names.0) s in
          subst (AskedSoFar (g.F.LayerFiles.asked c.args.files.now) (g.F.LayerFiles.asked c.take_turn.new.files))
          (sym (one_turn_more s c.loop-place.place c.in-Some.name (sym some) c.take_turn.new.draft.names.listed m.0 (e.names.1 ∙ m.1)))
          (asked_next (g.F.LayerFiles.asked c.args.files.now) (g.F.LayerFiles.asked c.loop-place.files) (g.F.LayerFiles.asked c.take_turn.new.files) (take c.loop-place.place s) c.in-Some.name i.asked
          (not_before s c.loop-place.place c.in-Some.name i.apart (sym some)) e.asks);
      steady = e.counted.1 (λ k. absurd (let clash = k in cc)) ∙ i.steady;
    }

pub returns-clause-opens : goal.returns-clause-opens
returns-clause-opens g c =
    let s = opening_of c.loop-place.draft in
    let here : c.args.most ≡ c.loop-place.place = omega arith in
    known_last (g.F.LayerFiles.files c.args.files.now) c.args.most c.args.root c.args.session (c.args.most - c.loop-place.place) c.loop-place.place s c.loop-place.invariant.known (omega arith)
    c.finished_within.result (c.finished_within.ensures ∙ ap (λ (n : ℕ). by_turn (λ m. Err WorldTooLarge) s (slice_get s.names n)) here)

pub returns-in_err-draft-clause-asks : goal.returns-in_err-draft-clause-asks
returns-in_err-draft-clause-asks g c = nothing_asked (g.F.LayerFiles.files c.args.files.now) c.args.root c.args.session (g.F.LayerFiles.asked c.args.files.now)

pub returns-in-None-clause-asks : goal.returns-in-None-clause-asks
returns-in-None-clause-asks g c =
    let i = c.loop-place.invariant in
    asked_met c.args.most c.args.root c.args.session (c.args.most - c.loop-place.place) c.loop-place.place (opening_of c.loop-place.draft) (g.F.LayerFiles.asked c.args.files.now) (g.F.LayerFiles.asked c.loop-place.files)
    (take c.loop-place.place c.loop-place.draft.names.listed) i.asked (λ q. has_of_take q c.loop-place.place c.loop-place.draft.names.listed) (g.F.LayerFiles.files c.args.files.now) i.known

pub returns-in_err-name-clause-asks : goal.returns-in_err-name-clause-asks
returns-in_err-name-clause-asks g c =
    let i = c.loop-place.invariant in
    asked_met c.args.most c.args.root c.args.session (c.args.most - c.loop-place.place) c.loop-place.place (opening_of c.loop-place.draft) (g.F.LayerFiles.asked c.args.files.now) (g.F.LayerFiles.asked c.loop-place.files)
    (take c.loop-place.place c.loop-place.draft.names.listed) i.asked (λ q. has_of_take q c.loop-place.place c.loop-place.draft.names.listed) (g.F.LayerFiles.files c.args.files.now) i.known

pub returns-in-Err-clause-asks : goal.returns-in-Err-clause-asks
returns-in-Err-clause-asks g c =
    let i = c.loop-place.invariant in
    let some = sym c.in-Some.is ∙ c.in_ok-name.ensures in
    let s = c.loop-place.draft.names.listed in
    asked_met c.args.most c.args.root c.args.session (c.args.most - c.loop-place.place) c.loop-place.place (opening_of c.loop-place.draft) (g.F.LayerFiles.asked c.args.files.now) (g.F.LayerFiles.asked c.take_turn.new.files)
    (take c.loop-place.place s ++ c.in-Some.name ∷ [])
    (asked_next (g.F.LayerFiles.asked c.args.files.now) (g.F.LayerFiles.asked c.loop-place.files) (g.F.LayerFiles.asked c.take_turn.new.files) (take c.loop-place.place s) c.in-Some.name i.asked
    (not_before s c.loop-place.place c.in-Some.name i.apart (sym some)) c.in-Err.ensures.asks)
    (turn_within s c.loop-place.place c.in-Some.name (sym some)) (g.F.LayerFiles.files c.args.files.now) i.known

pub returns-clause-asks : goal.returns-clause-asks
returns-clause-asks g c =
    let i = c.loop-place.invariant in
    asked_met c.args.most c.args.root c.args.session (c.args.most - c.loop-place.place) c.loop-place.place (opening_of c.loop-place.draft) (g.F.LayerFiles.asked c.args.files.now) (g.F.LayerFiles.asked c.loop-place.files)
    (take c.loop-place.place c.loop-place.draft.names.listed) i.asked (λ q. has_of_take q c.loop-place.place c.loop-place.draft.names.listed) (g.F.LayerFiles.files c.args.files.now) i.known
