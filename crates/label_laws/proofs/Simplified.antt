-- Simplifying keeps the tables sound, and no label goes forward.
use Rattle.std.proofs.Common.{◌≡◌, ℕ, zero, suc, ◌-◌, ◌<◌, ◌≤◌, Bool, true, false, ◌&&◌, ◌||◌, eqb, ltb, ◌≢◌, ◌⊎◌, List, [], map, length, get_or, unwrap_or, refl, ap, ◌∙◌, inl, inr, arith}
use lib.ListN.{length-map}
use Rattle.std.specs.List.{AllByRecursion}
use Rattle.std.proofs.lemmas.Bool.{cases_lt, cond_both, and_parts, or_parts, ltb-true, eqb-true, eqb-false}
use Rattle.std.proofs.lemmas.List.{get_or_past}
use Rattle.std.proofs.ByRecursion.{All-get_or, All-take, All-set}
use Rattle.model.specs.declared.rows.Label.{Label}
use Rattle.model.specs.declared.rows.Place.{Place}
use Rattle.model.specs.declared.rows.Branch.{Branch}
use Rattle.model.specs.State.{State, unknown, cur_offset, with_branches}
use Rattle.model.specs.Labels.{offset_in, moved, aliased}
use Rattle.model.specs.Simplify.{is_conditional, no_branch, last_branch, target_of, has_labels, cut, redirect, turned, turn, Round, stop, applied, rule_1, rule_2, rule_3, rule_4, takes_branch, round, rounds, all_rounds, forgotten, simplified}
use Rattle.model.proofs.Cases.{either}
use Rattle.label_laws.specs.Sound.{BranchAmong, UseAmong, Waits, Sound, Goes}
use Rattle.label_laws.proofs.Edits.{Keeps}
use Rattle.label_laws.proofs.Moved.{moved_row, moved_keeps}
use Rattle.label_laws.proofs.Redirected.{aliased_row, aliased_keeps}
use Rattle.label_laws.proofs.Tables.{tables_kept}
use Rattle.label_laws.proofs.Goes.{goes_same, goes_on, goes_beside}

-- labels that wait stand nowhere, and stay as they are
waits_moved : (from to : ℕ) (ls : List Label) (l : ℕ) → Waits ls l → Waits (map (moved from to) ls) l
waits_moved from to ls l w = record { exists = rw length-map w.exists; row = moved_row from to ls l ∙ ap (moved from to) w.row }

waits_aliased : (from target : ℕ) (ls : List Label) (l : ℕ) → Waits ls l → Waits (map (aliased from target) ls) l
waits_aliased from target ls l w = record { exists = rw length-map w.exists; row = aliased_row from target ls l ∙ ap (aliased from target) w.row }

-- what a round takes
record Taken (s : State) : Type 0 where
  some : 0 < length s.branches
  at_end : (last_branch s).end ≡ cur_offset s

taken : (s : State) → takes_branch s ≡ true → Taken s
taken s e =
    let a = (and_parts (ltb 0 (length s.branches) && eqb (last_branch s).end (cur_offset s)) _ e).0 in
    let b = and_parts (ltb 0 (length s.branches)) _ a in
    record { some = ltb-true _ _ b.0; at_end = eqb-true _ _ b.1 }

last_among : (s : State) → Taken s → Sound s → BranchAmong (length s.labels) (last_branch s)
last_among s t k = All-get_or (BranchAmong (length s.labels)) s.branches (length s.branches - 1) no_branch (omega (arith, t.some)) k.branches

cut_goes : (s : State) → Taken s → Sound s → Goes s (cut s)
cut_goes s t k =
    let b = last_among s t k in
    let m : Keeps s.labels (cut s).labels = moved_keeps s.labels (cur_offset s) (last_branch s).start (omega (arith, b.forward, t.at_end)) k.labels in
    let n = length s.labels in
    record {
      sound = tables_kept s.labels (cut s).labels (cut s).branches (cut s).fresh s.held m s.deferred s.constants s.requested (waits_moved (cur_offset s) (last_branch s).start s.labels) (record {
        labels = k.labels;
        branches = All-take (BranchAmong n) (length s.branches - 1) s.branches k.branches;
        fresh = All-take (UseAmong n) (length s.fresh - 1) s.fresh k.fresh;
        held = k.held;
        waits = k.waits;
        apart = k.apart;
      });
      later = m.later;
    }

redirect_goes : (s : State) → Taken s → target_of s (last_branch s) ≢ (last_branch s).start → Sound s → Goes s (redirect s)
redirect_goes s t elsewhere k =
    let b = last_among s t k in
    let m : Keeps s.labels (redirect s).labels = aliased_keeps s.labels (last_branch s).start (last_branch s).target b.target k.labels (λ e. elsewhere (ap (λ (p : Place). unwrap_or (offset_in p) unknown) e)) in
    record {
      sound = tables_kept s.labels (redirect s).labels s.branches s.fresh s.held m s.deferred s.constants s.requested (waits_aliased (last_branch s).start (last_branch s).target s.labels) k;
      later = m.later;
    }

turned-among : (n : ℕ) (bs : List Branch) (j l : ℕ) → l < n → AllByRecursion (BranchAmong n) bs → BranchAmong n (turned (get_or bs j no_branch) l)
turned-among n bs j l h a = by (cases_lt j (length bs))
  where
    by : (j < length bs) ⊎ (length bs ≤ j) → BranchAmong n (turned (get_or bs j no_branch) l)
    by (inl i) = let b = All-get_or (BranchAmong n) bs j no_branch i a in record { forward = b.forward; room = b.room; target = h }
    by (inr i) = rw (get_or_past bs j no_branch i) (record { forward = omega arith; room = omega arith; target = h })

turn_goes : (s : State) (j l : ℕ) → l < length s.labels → Sound s → Goes s (turn s j l)
turn_goes s j l h k =
    let n = length s.labels in
    goes_beside s (turn s j l) k (record {
      labels = k.labels;
      branches = All-set (BranchAmong n) s.branches j _ (turned-among n s.branches j l h k.branches) k.branches;
      fresh = All-set (UseAmong n) s.fresh _ _ h k.fresh;
      held = k.held;
      waits = k.waits;
      apart = k.apart;
    }) refl

turned_goes : (s : State) (j : ℕ) → Taken s → Sound s → Goes s (turn (cut s) j (last_branch s).target)
turned_goes s j t k =
    let c = cut_goes s t k in
    goes_on s (cut s) _ c (turn_goes (cut s) j (last_branch s).target (omega (arith, c.later.more, (last_among s t k).target)) c.sound)

-- a round
record OneRound (s : State) (r : Round) : Type 0 where
  holds : Goes s r.state

cut-round : (s : State) → Taken s → Sound s → OneRound s (applied 1 (cut s))
cut-round s t k = record { holds = cut_goes s t k }

turned_round : (s : State) (j : ℕ) → Taken s → Sound s → OneRound s (applied 1 (turn (cut s) j (last_branch s).target))
turned_round s j t k = record { holds = turned_goes s j t k }

stop-round : (s : State) → Sound s → OneRound s (stop s)
stop-round s k = record { holds = goes_same s k }

last_rules_go : (s : State) → Taken s → Sound s → OneRound s (rule_3 s (rule_4 s (stop s)))
last_rules_go s t k = search (either (OneRound s), cut-round, turned_round, stop-round)

rules_go : (s : State) → Taken s → Sound s → OneRound s (rule_1 s (rule_2 s (rule_3 s (rule_4 s (stop s)))))
rules_go s t k =
    either (OneRound s) (eqb (target_of s (last_branch s)) (cur_offset s)) _ _ (cut-round s t k)
    (cond_both (is_conditional (last_branch s) || eqb (target_of s (last_branch s)) (last_branch s).start) _ _ (OneRound s) (λ e. stop-round s k)
    (λ e. either (OneRound s) (has_labels s) _ _ (record { holds = redirect_goes s t (eqb-false _ _ (or_parts (is_conditional (last_branch s)) _ e).1) k }) (last_rules_go s t k)))

round_goes : (s : State) → Sound s → OneRound s (round s)
round_goes s k = cond_both (takes_branch s) _ _ (OneRound s) (λ e. rules_go s (taken s e) k) (λ e. stop-round s k)

-- rounds
record Rounds (s : State) (r : ℕ × State) : Type 0 where
  holds : Goes s r.1

rounds_go : (n : ℕ) (s : State) → Sound s → Rounds s (rounds n s)
rounds_go zero s k = record { holds = goes_same s k }
rounds_go (suc n) s k =
    let f : OneRound s (round s) = round_goes s k in
    let g : Rounds (round s).state (rounds n (round s).state) = rounds_go n (round s).state f.holds.sound in
    either (Rounds s) (round s).again _ _ (record { holds = goes_on s (round s).state _ f.holds g.holds }) (record { holds = goes_same s k })

pub forget_goes : (s : State) → Sound s → Goes s (with_branches s [])
forget_goes s k = goes_beside s (with_branches s []) k (record { labels = k.labels; branches = tt; fresh = k.fresh; held = k.held; waits = k.waits; apart = k.apart }) refl

forgotten_goes : (s : State) → Sound s → Goes s (forgotten s)
forgotten_goes s k = either (Goes s) _ _ _ (forget_goes s k) (goes_same s k)

pub simplified_goes : (skip : Bool) (s : State) → Sound s → Goes s (simplified skip s)
simplified_goes true s k = goes_same s k
simplified_goes false s k = let f = (rounds_go _ s k).holds in goes_on s (all_rounds s).1 _ f (forgotten_goes (all_rounds s).1 f.sound)
