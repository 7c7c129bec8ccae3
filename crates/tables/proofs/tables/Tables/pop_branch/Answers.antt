use Rattle.std.proofs.Common.{rules}
use Rattle.tables.proofs.Dropped.{begun_front, short_front, within_front, waiting_front, in_order_front, fixups_in_order_front, last_within, last_waiting, before_last, earlier_fixups}
use Rattle.tables.proofs.tables.Tables.pop_branch.Goals as goal

pub invariant_of-self : goal.invariant_of-self
invariant_of-self c =
    let s = c.args.self.now in
    let e = c.take_last.ensures.items in (
      search rules,
      (
        begun_front _ _ _ e s.begun,
        (
          short_front _ _ _ e s.short,
          (
            within_front _ _ _ e _ s.within,
            (waiting_front _ _ _ e _ s.waiting, (in_order_front _ _ _ e s.in_order, (fixups_in_order_front _ _ _ e s.fixups_in_order, (s.fixups_room, (s.traps_room, (s.requests_room, (s.regions_room, tt))))))),
          ),
        ),
      ),
    )

pub returns-clause-within : goal.returns-clause-within
returns-clause-within c = let s = c.args.self.now in last_within _ _ _ c.take_last.ensures.items _ s.begun s.within

pub returns-clause-waiting : goal.returns-clause-waiting
returns-clause-waiting c = last_waiting _ _ _ c.take_last.ensures.items _ c.args.self.now.waiting

pub returns-clause-before : goal.returns-clause-before
returns-clause-before c = let s = c.args.self.now in before_last _ _ _ c.take_last.ensures.items s.begun s.in_order

pub returns-clause-earlier : goal.returns-clause-earlier
returns-clause-earlier c = earlier_fixups _ _ _ c.take_last.ensures.items c.args.self.now.fixups_in_order
