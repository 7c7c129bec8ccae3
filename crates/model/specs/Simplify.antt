-- Simplifying the branches at the end of the code.
use Rattle.std.specs.Prelude.{ℕ, zero, suc, ◌+◌, ◌-◌, Bool, true, false, cond, not, ◌&&◌, ◌||◌, List, [], map, length, take, None, is_some, ◌==◌, nat_le, nat_lt, slice_index_or, slice_set}
use Rattle.std.specs.Option.{unwrap_or, option_map}
use Rattle.model.specs.declared.rows.Fixup.{Fixup}
use Rattle.model.specs.declared.rows.Branch.{Branch}
use Rattle.model.specs.Capacities.{max_labels_at_branch}
use Rattle.model.specs.State.{State, cur_offset, with_code, with_labels, with_fresh, with_branches}
use Rattle.model.specs.Code.{zeros, overwritten}
use Rattle.model.specs.Labels.{offset_of, moved, aliased, standing, bound_count}

-- what stands for a branch where there is none
abbrev pub no_branch : Branch
no_branch = record { start = 0; end = 0; target = 0; fixup = 0; bytes = zeros 8; inverted = None }

-- what stands for a fixup where there is none
abbrev pub no_fixup : Fixup
no_fixup = record { label = 0; offset = 0; kind = 0; deadline = 0 }

-- a branch is conditional exactly where it has an inversion
abbrev pub is_conditional : Branch → Bool
is_conditional b = is_some b.inverted

-- the last standing branch
abbrev pub last_branch : State → Branch
last_branch s = slice_index_or s.branches (length s.branches - 1) no_branch

-- the branch before the last
abbrev pub branch_before : State → Branch
branch_before s = slice_index_or s.branches (length s.branches - 2) no_branch

-- the offset that a branch's target resolves to
abbrev pub target_of : State → Branch → ℕ
target_of s b = offset_of s.labels b.target

-- a branch stands before the last, and ends where the last begins
abbrev pub adjoins : State → Bool
adjoins s = nat_le 2 (length s.branches) && (branch_before s).end == (last_branch s).start

-- labels stand at the start of the last branch
abbrev pub has_labels : State → Bool
has_labels s = nat_lt 0 (standing (last_branch s).start s.labels)

-- The last branch is cut: the code ends at its start, its fixup, which is the last fresh one, is removed, and labels at
-- the tail move to its start.
abbrev pub cut : State → State
cut s =
    let b = last_branch s in
    with_code (with_labels (with_fresh (with_branches s (take (length s.branches - 1) s.branches)) (take (length s.fresh - 1) s.fresh)) (map (moved (cur_offset s) b.start) s.labels)) (take b.start s.code)

-- labels at the start of the last branch become aliases of its target, and stand there no longer
abbrev pub redirect : State → State
redirect s = let b = last_branch s in with_labels s (map (aliased b.start b.target) s.labels)

-- a branch to another label, with its bytes and its inversion swapped where it has one
abbrev pub turned : Branch → ℕ → Branch
turned b l = record { start = b.start; end = b.end; target = l; fixup = b.fixup; bytes = unwrap_or b.inverted b.bytes; inverted = option_map (λ (x : List ℕ). b.bytes) b.inverted }

-- as many bytes as a branch has
abbrev pub bytes_of : Branch → List ℕ
bytes_of b = take (b.end - b.start) b.bytes

-- a fixup with another label
abbrev pub relabelled : Fixup → ℕ → Fixup
relabelled f l = record { label = l; offset = f.offset; kind = f.kind; deadline = f.deadline }

-- a branch of a number is turned round and leads to another label, and so does its fixup
abbrev pub turn : State → ℕ → ℕ → State
turn s n l =
    let b = turned (slice_index_or s.branches n no_branch) l in
    with_code (with_fresh (with_branches s (slice_set s.branches n b)) (slice_set s.fresh b.fixup (relabelled (slice_index_or s.fresh b.fixup no_fixup) l))) (overwritten s.code b.start (bytes_of b))

-- a round: whether a rule applied, so that another round begins, how many fixups it removed, and the tables after it
pub record Round : Type 0 where
  pub again : Bool
  pub removed : ℕ
  pub state : State

-- no rule applies
abbrev pub stop : State → Round
stop s = record { again = false; removed = 0; state = s }

-- a rule applied, and removed so many fixups
abbrev pub applied : ℕ → State → Round
applied n s = record { again = true; removed = n; state = s }

-- If its target resolves to the current offset, cut it.
abbrev pub rule_1 : State → Round → Round
rule_1 s otherwise = cond (target_of s (last_branch s) == cur_offset s) (applied 1 (cut s)) otherwise

-- If it is conditional, or its target resolves to its own start, stop. Otherwise any labels at its start become aliases of its
-- target and stand there no longer; where any stood, a new round begins.
abbrev pub rule_2 : State → Round → Round
rule_2 s otherwise =
    cond (is_conditional (last_branch s) || target_of s (last_branch s) == (last_branch s).start) (stop s)
    (cond (has_labels s) (applied 0 (redirect s)) otherwise)

-- If the branch before is unconditional and adjoins, cut the last.
abbrev pub rule_3 : State → Round → Round
rule_3 s otherwise = cond (adjoins s && not (is_conditional (branch_before s))) (applied 1 (cut s)) otherwise

-- If the branch before is conditional, adjoins and has a target at the current offset, cut the last. The earlier branch is
-- turned round and takes the target of the last.
abbrev pub rule_4 : State → Round → Round
rule_4 s otherwise =
    cond (adjoins s && is_conditional (branch_before s) && target_of s (branch_before s) == cur_offset s)
    (applied 1 (turn (cut s) (length s.branches - 2) (last_branch s).target))
    otherwise

-- a round takes the last standing branch, if it ends at the current offset and few enough labels stand at its start
abbrev pub takes_branch : State → Bool
takes_branch s = nat_lt 0 (length s.branches) && (last_branch s).end == cur_offset s && nat_le (standing (last_branch s).start s.labels) max_labels_at_branch

-- the first rule that says what to do with the last branch
abbrev pub round : State → Round
round s = cond (takes_branch s) (rule_1 s (rule_2 s (rule_3 s (rule_4 s (stop s))))) (stop s)

-- rounds until no rule applies: how many fixups they removed, and the tables after them
abbrev pub rounds : ℕ → State → ℕ × State
rounds zero s = (0, s)
rounds (suc n) s =
    let r = round s in
    let rest = rounds n r.state in
    cond r.again (r.removed + rest.0, rest.1) (0, s)

-- each round cuts a branch, or makes a label that stands somewhere an alias: there are no more rounds than these together
abbrev pub all_rounds : State → ℕ × State
all_rounds s = rounds (length s.branches + bound_count s.labels) s

-- if the last standing branch ends before the current offset, all are forgotten
abbrev pub forgotten : State → State
forgotten s = cond (nat_lt 0 (length s.branches) && nat_lt (last_branch s).end (cur_offset s)) (with_branches s []) s

-- with skip nothing changes
abbrev pub simplified : Bool → State → State
simplified skip s = cond skip s (forgotten (all_rounds s).1)

-- how many fixups simplifying removes
abbrev pub cuts : Bool → State → ℕ
cuts skip s = cond skip 0 (all_rounds s).0
