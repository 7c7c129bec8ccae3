use Rattle.std.proofs.Common.{◌≡◌, map, get_or, take, vec_items, ◌∙◌, arith}
use Rattle.std.proofs.lemmas.List.{take_more, take_all}
use Rattle.buffer.specs.View.{view}
use Rattle.model.proofs.Balance.{run_accounted}
use Rattle.replay.specs.declared.calls.Call.TheVariants.{GetLabel}
use Rattle.replay.specs.Accepted.{accepted_among}
use Rattle.replay.specs.Calls.{call_of}
use Rattle.replay.proofs.Follows.{Follows, one_more, waiting_within, counts_are}
use Rattle.replay.proofs.replay.replay_calls.Given as given
use Rattle.replay.proofs.replay.replay_calls.Goals as goal

pub loop-call-preserved : goal.loop-call-preserved
loop-call-preserved g c =
    let calls = c.args.calls.now in
    let k = c.loop-call.call-index in
    let call = get_or calls k GetLabel in
    let h = c.loop-call.invariant in
    let p = c.push_reserved.ensures in
    let said = rw h.set at c.make.ensures.tables in
    record {
      set = c.make.ensures.set ∙ h.set;
      follows = rw (take_more calls k GetLabel c.loop-call-test.true, p.items) (one_more _ _ _ _ _ call c.make.result h.follows said);
      room = omega (arith, p.capacity, h.room);
    }

-- all calls are made
all_made : (g : given.Over) (c : goal.After-from g)
    → Follows (g.S.InstructionSet.meaning c.args.set) c.args.calls.now (vec_items c.loop-call.answers) (view c.loop-call.session.buffer)
all_made g c =
    rw (take_all c.loop-call.call-index c.args.calls.now (omega arith), c.in_ok-session.ensures.1) at c.loop-call.invariant.follows

counted : (g : given.Over) (c : goal.After-from g) → c.count_accepted-accepted.result ≡ accepted_among c.args.calls.now (vec_items c.loop-call.answers)
counted g c = rw c.deref.ensures.value at c.count_accepted-accepted.ensures

pub overflow_sub-removed : goal.overflow_sub-removed
overflow_sub-removed g c =
    waiting_within _ _ _ _ _ _ (all_made g c) (counted g c) (c.from.ensures ∙ c.waiting_len.ensures)

pub returns : goal.returns
returns g c =
    let h = all_made g c in (
      record {
        tables = h.tables;
        answers = h.answered;
        counts = counts_are _ _ _ _ _ _ h (counted g c) (c.from.ensures ∙ c.waiting_len.ensures);
        balanced = λ n. run_accounted (g.S.InstructionSet.meaning c.args.set) (take n (map call_of c.args.calls.now));
      },
      c.loop-call.invariant.set ∙ c.in_ok-session.ensures.1,
    )
