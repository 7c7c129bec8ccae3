-- Islands: the fixups that wait are patched or put aside, then pending traps and constants are written.
use Rattle.std.specs.Prelude.{ℕ, ◌+◌, ◌*◌, min, Bool, true, false, cond, ◌&&◌, ◌||◌, List, [], ◌∷◌, ◌++◌, length, drop, is_some, Some, None, Ok, Err, sum_by, Option, Result, nat_lt}
use Rattle.isa.specs.Isa.{Isa}
use Rattle.model.specs.declared.rows.Fixup.{Fixup}
use Rattle.model.specs.declared.rows.DeferredTrap.{DeferredTrap}
use Rattle.model.specs.declared.rows.Fate.{Fate}
use Rattle.model.specs.declared.rows.Fate.TheVariants.{ToLabel, ToVeneer}
use Rattle.model.specs.declared.refusals.Refusal.{Refusal}
use Rattle.model.specs.declared.refusals.Refusal.TheVariants.{BrokenOff, RegionOpen, CodeFull}
use Rattle.model.specs.Capacities.{max_code}
use Rattle.model.specs.State.{State, unknown, cur_offset, is_open, with_code, with_labels, with_fresh, with_held, with_deadline, with_branches, with_deferred, with_traps, with_constants, with_requested, with_placed, with_broken}
use Rattle.model.specs.Code.{zeros, aligned, padded_to}
use Rattle.model.specs.Labels.{place_of, bound_at, bound_if}
use Rattle.model.specs.Fixups.{waiting, least_fresh_deadline, insert_held}
use Rattle.model.specs.Constants.{constant_row, label_constant}
use Rattle.model.specs.Progress.{Progress, reached, breaks_off, then}
use Rattle.model.specs.Fates.{fate, patch_fixup, add_veneer}

-- How far the code can reach after so many bytes and an island: every fixup that waits may take the longest veneer, and
-- each constant may need padding.
abbrev pub threshold : Isa → State → ℕ → ℕ
threshold i s distance =
    min unknown (cur_offset s + distance + waiting s * i.worst + sum_by (λ (n : ℕ). (constant_row s n).size + (constant_row s n).align) s.requested + length s.deferred * length i.trap)

-- a fixup handled: the first tables still have it, the second no more
abbrev pub handled : Isa → Result Fate Refusal → State → State → Fixup → Progress
handled i (Ok (ToLabel place)) before s f = record { failed = None; state = with_code s (patch_fixup i s f place); made = 0; patched = 1; islands = 0 }
handled i (Ok (ToVeneer at)) before s f = record { failed = None; state = add_veneer i s f at; made = 1; patched = 1; islands = 0 }
handled i (Err e) before s f = breaks_off e before

-- ripe: its label is placed, or its deadline is below the threshold and a veneer exists
abbrev pub is_ripe : Isa → ℕ → State → Fixup → Bool
is_ripe i t s f = is_some (place_of s.labels f.label) || (nat_lt f.deadline t && i.supports f.kind)

-- the tables without the first fresh fixup
abbrev pub less_fresh : State → State
less_fresh s = with_fresh s (drop 1 s.fresh)

-- the tables without the first held fixup
abbrev pub less_held : State → State
less_held s = with_held s (drop 1 s.held)

-- the first fresh fixup is handled if ripe, else held
abbrev pub fresh_step : Isa → Bool → ℕ → State → Fixup → Progress
fresh_step i force t s f =
    cond (is_ripe i t s f) (handled i (fate i force s f) s (less_fresh s) f)
    (reached (with_held (less_fresh s) (insert_held f s.held)))

-- these fixups, which are the first fresh ones, in order
abbrev pub fresh_pass : Isa → Bool → ℕ → List Fixup → State → Progress
fresh_pass i force t [] s = reached s
fresh_pass i force t (f ∷ fs) s = then (fresh_step i force t s f) (λ r. fresh_pass i force t fs r)

-- these fixups, which are the first held ones, until one is unripe
abbrev pub held_pass : Isa → Bool → ℕ → List Fixup → State → Progress
held_pass i force t [] s = reached s
held_pass i force t (f ∷ fs) s =
    let rest = then (handled i (fate i force s f) s (less_held s) f) (λ r. held_pass i force t fs r) in
    cond (is_ripe i t s f) rest (reached s)

-- the fresh deadline is that of the veneers just made
abbrev pub reset_deadline : Isa → State → State
reset_deadline i s = with_deadline s (least_fresh_deadline i s.fresh)

-- a trap is written at an offset behind the code, bound and put on record
abbrev pub write_trap : Isa → State → DeferredTrap → ℕ → State
write_trap i s d at = with_code (with_labels (with_traps s (s.traps ++ record { offset = at; code = d.code } ∷ [])) (bound_at s.labels d.label at)) (padded_to s.code at ++ i.trap)

-- the first deferred trap is written, aligned
abbrev pub trap_step : Isa → State → DeferredTrap → Progress
trap_step i s d =
    let at = aligned i.align (cur_offset s) in
    cond (nat_lt max_code (at + length i.trap)) (breaks_off CodeFull s)
    (reached (write_trap i (with_deferred s (drop 1 s.deferred)) d at))

-- these traps, which are the deferred ones, in order
abbrev pub traps_pass : Isa → List DeferredTrap → State → Progress
traps_pass i [] s = reached s
traps_pass i (d ∷ ds) s = then (trap_step i s d) (λ r. traps_pass i ds r)

-- a constant is placed as zeros at an offset behind the code, bound, and pending no longer
abbrev pub place_constant : State → ℕ → ℕ → State
place_constant s n at = with_code (with_labels (with_placed (with_constants s (label_constant s n None)) (s.placed ++ record { offset = at; number = n } ∷ [])) (bound_if s.labels (constant_row s n).label at)) (padded_to s.code at ++ zeros (constant_row s n).size)

-- the first requested constant is placed, aligned
abbrev pub constant_step : State → ℕ → Progress
constant_step s n =
    let at = aligned (constant_row s n).align (cur_offset s) in
    cond (nat_lt max_code (at + (constant_row s n).size)) (breaks_off CodeFull s)
    (reached (place_constant (with_requested s (drop 1 s.requested)) n at))

-- these constants, which are the requested ones, in order
abbrev pub constants_pass : List ℕ → State → Progress
constants_pass [] s = reached s
constants_pass (n ∷ ns) s = then (constant_step s n) (λ r. constants_pass ns r)

-- one island is complete
abbrev pub completed : State → Progress
completed s = record { failed = None; state = s; made = 0; patched = 0; islands = 1 }

-- An island forgets the standing branches. Then come the fixups fresh so far, the held ones, traps and constants; the
-- threshold is the one at the start.
abbrev pub island : Isa → Bool → ℕ → State → Progress
island i force distance s =
    let t = threshold i s distance in
    then (fresh_pass i force t s.fresh (with_branches s [])) (λ a.
    then (held_pass i force t a.held (reset_deadline i a)) (λ b.
    then (traps_pass i b.deferred b) (λ c.
    then (constants_pass c.requested c) completed)))

-- a buffer whose island failed is broken off
abbrev pub ended : Option Refusal → State → Result (Unit {0}) Refusal × State
ended None s = (Ok tt, s)
ended (Some e) s = (Err e, with_broken s true)

-- An island is written at the current offset. So many bytes may follow before there can be another.
abbrev pub emit_island : Isa → State → ℕ → Result (Unit {0}) Refusal × State
emit_island i s distance =
    cond s.broken (Err BrokenOff, s)
    (cond (is_open s) (Err RegionOpen, s)
    (let p = island i false distance s in ended p.failed p.state))
