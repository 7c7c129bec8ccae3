-- What becomes of a fixup: it is patched to its label or to a veneer, or else the island breaks off.
use Rattle.std.specs.Prelude.{ℕ, ◌+◌, ◌-◌, ◌%◌, Bool, true, cond, not, ◌&&◌, List, ◌++◌, length, Some, None, Ok, Err, Option, Result, ◌==◌, nat_le, nat_lt}
use Rattle.std.proofs.Math.IntN.{sub_ℕ}
use Rattle.isa.specs.Isa.{Isa, bytes_at, patched_at}
use Rattle.model.specs.declared.rows.Fixup.{Fixup}
use Rattle.model.specs.declared.rows.Fate.{Fate}
use Rattle.model.specs.declared.rows.Fate.TheVariants.{ToLabel, ToVeneer}
use Rattle.model.specs.declared.refusals.Refusal.{Refusal}
use Rattle.model.specs.declared.refusals.Refusal.TheVariants.{OutOfReach, CodeFull}
use Rattle.model.specs.Capacities.{max_code}
use Rattle.model.specs.State.{State, cur_offset, with_code}
use Rattle.model.specs.Code.{aligned, padded_to}
use Rattle.model.specs.Labels.{place_of}
use Rattle.model.specs.Fixups.{fixup_at, add_fixup}
use Rattle.model.specs.Calls.{is_use}

-- What becomes of a fixup that needs a veneer, where the code ends at an offset: its kind must have one, within reach, and
-- then there must be room.
abbrev pub veneer_at : Isa → ℕ → Fixup → Result Fate Refusal
veneer_at i end f =
    let at = aligned i.align end in
    cond (not (i.supports f.kind)) (Err OutOfReach)
    (cond (nat_lt (i.max_pos f.kind) (at - f.offset)) (Err OutOfReach)
    (cond (nat_lt max_code (at + length (i.veneer f.kind).code)) (Err CodeFull)
    (Ok (ToVeneer at))))

-- What becomes of a fixup whose label resolves to a place, or to none. A label ahead must be within reach. One that is not
-- too far behind is patched to, unless a veneer is forced on a kind that has one. All others need a veneer.
abbrev pub fate_at : Isa → Bool → ℕ → Option ℕ → Fixup → Result Fate Refusal
fate_at i force end None f = veneer_at i end f
fate_at i force end (Some place) f =
    cond (nat_lt (i.max_pos f.kind) (place - f.offset)) (Err OutOfReach)
    (cond (nat_le (f.offset - place) (i.max_neg f.kind) && not (force && i.supports f.kind)) (Ok (ToLabel place))
    (veneer_at i end f))

-- an offset at which a label stands is a multiple of the alignment
abbrev pub is_whole : Isa → Option ℕ → Bool
is_whole i None = true
is_whole i (Some place) = place % i.align == 0

-- A fixup as the set can patch it: of one of its kinds, with bytes that may be patched, at a multiple of the alignment, and
-- so its label where it stands. Every fixup that calls have built is so (`UsesFit` of Laws).
abbrev pub fits : Isa → State → Fixup → Bool
fits i s f =
    nat_lt f.kind i.kinds
    && (is_use i f.kind (bytes_at i f.kind s.code f.offset) && (f.offset % i.align == 0 && is_whole i (place_of s.labels f.label)))

-- what becomes of a fixup as the tables stand
abbrev pub fate : Isa → Bool → State → Fixup → Result Fate Refusal
fate i force s f = fate_at i force (cur_offset s) (place_of s.labels f.label) f

-- the code with a fixup patched to an offset
abbrev pub patch_fixup : Isa → State → Fixup → ℕ → List ℕ
patch_fixup i s f to = patched_at i f.kind s.code f.offset (sub_ℕ to f.offset)

-- the veneer's own fixup, for the same label
abbrev pub own_fixup : Isa → Fixup → ℕ → Fixup
own_fixup i f at = fixup_at i f.label (at + (i.veneer f.kind).place) (i.veneer f.kind).own

-- a fixup patched to a veneer, which is appended at an offset; the veneer's own fixup is fresh
abbrev pub add_veneer : Isa → State → Fixup → ℕ → State
add_veneer i s f at = add_fixup i (with_code s (padded_to (patch_fixup i s f at) at ++ (i.veneer f.kind).code)) (own_fixup i f at)
