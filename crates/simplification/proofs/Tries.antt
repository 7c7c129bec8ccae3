-- Trying the rules one by one is the round that the definition has.
use Rattle.std.proofs.Common.{◌≡◌, Bool, true, false, not, ◌&&◌, ◌||◌, eqb, refl, inl, inr}
use Rattle.std.proofs.lemmas.Bool.{cases_Bool}
use Rattle.model.specs.State.{State, cur_offset}
use Rattle.model.specs.Simplify.{is_conditional, last_branch, branch_before, target_of, adjoins, has_labels, takes_branch, round}
use Rattle.simplification.specs.Rules.{try_rules, all_rules}

pub tried : (s : State) → takes_branch s ≡ true → ((round s).again, (round s).state) ≡ try_rules all_rules s
tried s t =
    rw t (elim (cases_Bool (eqb (target_of s (last_branch s)) (cur_offset s))) [
      | inl a ↦ rw a refl
      | inr a ↦ rw a (elim (cases_Bool (is_conditional (last_branch s) || eqb (target_of s (last_branch s)) (last_branch s).start)) [
        | inl b ↦ rw b refl
        | inr b ↦ rw b (elim (cases_Bool (has_labels s)) [
          | inl c ↦ rw c refl
          | inr c ↦ rw c (elim (cases_Bool (adjoins s && not (is_conditional (branch_before s)))) [
            | inl d ↦ rw d refl
            | inr d ↦ rw d (elim (cases_Bool (adjoins s && is_conditional (branch_before s) && eqb (target_of s (branch_before s)) (cur_offset s))) [
              | inl e ↦ rw e refl
              | inr e ↦ rw e refl
            ])
          ])
        ])
      ])
    ])

-- no round takes a branch
pub untaken : (s : State) → takes_branch s ≡ false → ◌≡◌ {A = Bool × State} ((round s).again, (round s).state) (false, s)
untaken s t = rw t refl
