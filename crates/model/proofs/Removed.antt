-- Simplifying removes as many fixups as it says.
use Rattle.std.proofs.Common.{◌≡◌, ℕ, zero, suc, ◌+◌, ◌<◌, ◌≤◌, Bool, true, false, [], length, refl, arith, length-set, length-take}
use Rattle.std.proofs.lemmas.Bool.Decides.{nat_tests}
use Rattle.model.specs.State.{State, with_branches}
use Rattle.model.specs.Fixups.{waiting}
use Rattle.model.specs.Simplify.{cut, redirect, turn, takes_branch, Round, stop, applied, rule_1, rule_2, rule_3, rule_4, round, rounds, all_rounds, forgotten, simplified, cuts}
use Rattle.model.proofs.Cases.{either}

-- each standing branch has a fresh fixup, so that a cut finds one
abbrev pub Sound : State → Type 0
Sound s = length s.branches ≤ length s.fresh

-- so many fixups fewer wait
pub record Removes (s : State) (n : ℕ) (r : State) : Type 0 where
  pub fewer : waiting s ≡ n + waiting r
  pub sound : Sound r

-- a round
record OneRound (s : State) (r : Round) : Type 0 where
  holds : Removes s r.removed r.state

stop_removes : (s : State) → Sound s → OneRound s (stop s)
stop_removes s k = record { holds = record { fewer = omega arith; sound = k } }

cut_removes : (s : State) → 0 < length s.branches → Sound s → OneRound s (applied 1 (cut s))
cut_removes s h k = record { holds = record { fewer = simp length-take (omega arith); sound = simp length-take (omega arith) } }

redirect_removes : (s : State) → Sound s → OneRound s (applied 0 (redirect s))
redirect_removes s k = record { holds = record { fewer = omega arith; sound = k } }

turn_removes : (s : State) (n l : ℕ) → 0 < length s.branches → Sound s → OneRound s (applied 1 (turn (cut s) n l))
turn_removes s n l h k = record {
  holds = record {
    fewer = simp (length-set, length-take) (omega arith);
    sound = simp (length-set, length-take) (omega arith);
  };
}

rules_remove : (s : State) → 0 < length s.branches → Sound s → OneRound s (rule_1 s (rule_2 s (rule_3 s (rule_4 s (stop s)))))
rules_remove s h k = search (either (OneRound s), cut_removes, stop_removes, redirect_removes, turn_removes) depth 8

round_removes : (s : State) → Sound s → OneRound s (round s)
round_removes s k = by_test (takes_branch s) refl
  where
    by_test : (b : Bool) → takes_branch s ≡ b → OneRound s (round s)
    by_test true e = let h : 0 < length s.branches = grind (arith, nat_tests) in rw e (rules_remove s h k)
    by_test false e = rw e (stop_removes s k)

-- rounds
record Rounds (s : State) (r : ℕ × State) : Type 0 where
  holds : Removes s r.0 r.1

rounds_remove : (n : ℕ) (s : State) → Sound s → Rounds s (rounds n s)
rounds_remove zero s k = record { holds = record { fewer = omega arith; sound = k } }
rounds_remove (suc n) s k =
    let f : OneRound s (round s) = round_removes s k in
    let g : Rounds (round s).state (rounds n (round s).state) = rounds_remove n (round s).state f.holds.sound in
    either (Rounds s) (round s).again _ _
    (record { holds = record { fewer = omega (arith, f.holds.fewer, g.holds.fewer); sound = g.holds.sound } })
    (record { holds = record { fewer = omega arith; sound = k } })

forgotten_removes : (s r : State) (n : ℕ) → Removes s n r → Removes s n (forgotten r)
forgotten_removes s r n f =
    let g : Removes s n (with_branches r []) = record { fewer = f.fewer; sound = omega arith } in
    search (either (Removes s n))

pub simplified_removes : (skip : Bool) (s : State) → Sound s → Removes s (cuts skip s) (simplified skip s)
simplified_removes true s k = record { fewer = omega arith; sound = k }
simplified_removes false s k = forgotten_removes s (all_rounds s).1 (all_rounds s).0 (rounds_remove _ s k).holds
