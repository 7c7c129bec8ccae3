-- The calls that build code, save islands and finishing: what each answers, and the tables after it. The refusals of a
-- call stand in the order of checking, and a refused call changes nothing.
use Rattle.std.specs.Prelude.{ℕ, ◌+◌, ◌-◌, ◌%◌, Bool, true, false, cond, not, ◌&&◌, ◌||◌, List, [], ◌∷◌, ◌++◌, length, ℤ, pos, negsuc, Some, None, Ok, Err, Option, Result, ◌==◌, nat_le, nat_lt}
use Rattle.std.specs.Option.{option_map}
use Rattle.isa.specs.declared.jumps.Role.{Role}
use Rattle.isa.specs.declared.jumps.Role.TheVariants.{Unconditional, Conditional}
use Rattle.isa.specs.Isa.{Isa}
use Rattle.isa.specs.Patches.{inversion}
use Rattle.model.specs.declared.rows.Region.{Region}
use Rattle.model.specs.declared.refusals.Refusal.{Refusal}
use Rattle.model.specs.declared.refusals.Refusal.TheVariants.{BrokenOff, RegionOpen, NoSuchLabel, AlreadyBound, NotAligned, NoSuchKind, BadBytes, CodeFull, LabelsFull, FixupsFull, BranchesFull, TrapsFull, ConstantsFull, BadConstant, NoSuchConstant, BadAlignment, RegionsFull}
use Rattle.model.specs.State.{State, cur_offset, is_open, with_code, with_labels, with_branches, with_deferred, with_traps, with_constants, with_requested, with_regions, with_opened}
use Rattle.model.specs.Code.{zeros, padding, is_alignment}
use Rattle.model.specs.Full.{no_room, labels_full, fixups_full, branches_full, traps_full, constants_full, requests_full, regions_full}
use Rattle.model.specs.Labels.{unbound, label_row, is_nowhere, bound_at}
use Rattle.model.specs.Fixups.{fixup_at, add_fixup}
use Rattle.model.specs.Constants.{is_constant, constant_row, label_constant}
use Rattle.model.specs.Simplify.{simplified}

-- no label has that number
abbrev pub no_label : State → ℕ → Bool
no_label s l = nat_le (length s.labels) l

-- the current offset is no multiple of the alignment
abbrev pub misaligned : Isa → State → Bool
misaligned i s = not (cur_offset s % i.align == 0)

-- one label more
abbrev pub add_label : State → Bool → State
add_label s reserved = with_labels s (s.labels ++ unbound reserved ∷ [])

-- one label more, if there is room for it
abbrev pub new_label : State → Bool → Result ℕ Refusal × State
new_label s reserved = cond (labels_full s) (Err LabelsFull, s) (Ok (length s.labels), add_label s reserved)

-- Labels are numbered from 0.
abbrev pub get_label : State → Result ℕ Refusal × State
get_label s = cond s.broken (Err BrokenOff, s) (new_label s false)

-- a label that was bound, has become an alias, or is reserved
abbrev pub is_taken : State → ℕ → Bool
is_taken s l = not (is_nowhere (label_row s.labels l).place) || (label_row s.labels l).reserved

-- a label bound at the current offset
abbrev pub bind : State → ℕ → State
bind s l = with_labels s (bound_at s.labels l (cur_offset s))

-- A label is bound at the current offset, and the branches are simplified.
abbrev pub bind_label : Isa → State → ℕ → Bool → Result (Unit {0}) Refusal × State
bind_label i s l skip =
    cond s.broken (Err BrokenOff, s)
    (cond (is_open s) (Err RegionOpen, s)
    (cond (no_label s l) (Err NoSuchLabel, s)
    (cond (is_taken s l) (Err AlreadyBound, s)
    (cond (misaligned i s) (Err NotAligned, s)
    (Ok tt, simplified skip (bind s l))))))

-- a trap on record, unless the code is 0
abbrev pub add_trap : State → ℕ → State
add_trap s trap = with_traps s (cond (nat_lt 0 trap) (s.traps ++ record { offset = cur_offset s; code = trap } ∷ []) s.traps)

-- Bytes are appended, which may trap if the trap code is not 0. The answer is their offset.
abbrev pub put_data : State → ℕ → List ℕ → Result ℕ Refusal × State
put_data s trap bytes =
    cond s.broken (Err BrokenOff, s)
    (cond (nat_lt 255 trap || (nat_lt 0 trap && length bytes == 0)) (Err BadBytes, s)
    (cond (nat_lt 0 trap && traps_full s) (Err TrapsFull, s)
    (cond (no_room s (length bytes)) (Err CodeFull, s)
    (Ok (cur_offset s), with_code (add_trap s trap) (s.code ++ bytes)))))

-- Zeros are appended up to a multiple of n.
abbrev pub align_to : State → ℕ → Result (Unit {0}) Refusal × State
align_to s n =
    cond s.broken (Err BrokenOff, s)
    (cond (not (is_alignment n)) (Err BadAlignment, s)
    (cond (no_room s (padding n (cur_offset s))) (Err CodeFull, s)
    (Ok tt, with_code s (s.code ++ zeros (padding n (cur_offset s))))))

-- a displacement is 0
abbrev pub is_zero : ℤ → Bool
is_zero (pos n) = n == 0
is_zero (negsuc n) = false

-- the bytes are as many as the kind patches, and those of an adding kind read 0
abbrev pub is_use : Isa → ℕ → List ℕ → Bool
is_use i k bytes = length bytes == i.size k && (not (i.adds k) || is_zero (i.reads k bytes))

-- bytes that refer to a label
abbrev pub append_use : Isa → State → ℕ → ℕ → List ℕ → State
append_use i s l k bytes = with_code (add_fixup i s (fixup_at i l (cur_offset s) k)) (s.code ++ bytes)

-- Bytes are appended that refer to a label, and a fixup for them waits. The answer is their offset.
abbrev pub use_label_at_offset : Isa → State → ℕ → ℕ → List ℕ → Result ℕ Refusal × State
use_label_at_offset i s l k bytes =
    cond s.broken (Err BrokenOff, s)
    (cond (is_open s) (Err RegionOpen, s)
    (cond (no_label s l) (Err NoSuchLabel, s)
    (cond (nat_le i.kinds k) (Err NoSuchKind, s)
    (cond (not (is_use i k bytes)) (Err BadBytes, s)
    (cond (misaligned i s) (Err NotAligned, s)
    (cond (fixups_full s) (Err FixupsFull, s)
    (cond (no_room s (length bytes)) (Err CodeFull, s)
    (Ok (cur_offset s), append_use i s l k bytes))))))))

-- the bytes of a branch in eight, with zeros after them
abbrev pub widened : List ℕ → List ℕ
widened bytes = bytes ++ zeros (8 - length bytes)

-- bytes that refer to a label, and a branch that stands
abbrev pub append_branch : Isa → State → ℕ → ℕ → List ℕ → Option (List ℕ) → State
append_branch i s l k bytes inverted =
    with_branches (append_use i s l k bytes)
    (s.branches ++ record { start = cur_offset s; end = cur_offset s + length bytes; target = l; fixup = length s.fresh; bytes = widened bytes; inverted = option_map widened inverted } ∷ [])

-- A branch is appended, and a fixup for it waits. Whether its bytes suit it was found out before.
abbrev pub add_branch : Isa → State → Bool → ℕ → ℕ → List ℕ → Option (List ℕ) → Result ℕ Refusal × State
add_branch i s suits l k bytes inverted =
    cond s.broken (Err BrokenOff, s)
    (cond (is_open s) (Err RegionOpen, s)
    (cond (no_label s l) (Err NoSuchLabel, s)
    (cond (nat_le i.kinds k) (Err NoSuchKind, s)
    (cond (not suits) (Err BadBytes, s)
    (cond (misaligned i s) (Err NotAligned, s)
    (cond (fixups_full s) (Err FixupsFull, s)
    (cond (branches_full s) (Err BranchesFull, s)
    (cond (no_room s (length bytes)) (Err CodeFull, s)
    (Ok (cur_offset s), append_branch i s l k bytes inverted)))))))))

-- a role is to jump always
abbrev pub is_unconditional : Option Role → Bool
is_unconditional None = false
is_unconditional (Some Unconditional) = true
is_unconditional (Some (Conditional c b)) = false

-- the bytes of an unconditional branch
abbrev pub is_jump : Isa → ℕ → List ℕ → Bool
is_jump i k bytes = length bytes == i.size k && is_unconditional (i.role k bytes)

-- An unconditional branch has no inversion.
abbrev pub add_uncond_branch : Isa → State → ℕ → ℕ → List ℕ → Result ℕ Refusal × State
add_uncond_branch i s l k bytes = add_branch i s (is_jump i k bytes) l k bytes None

-- A conditional branch comes with the bytes of its inversion.
abbrev pub add_cond_branch : Isa → State → ℕ → ℕ → List ℕ → List ℕ → Result ℕ Refusal × State
add_cond_branch i s l k bytes inverted = add_branch i s (inversion i k bytes inverted) l k bytes (Some inverted)

-- The next island writes a trap. The answer is its label.
abbrev pub defer_trap : State → ℕ → Result ℕ Refusal × State
defer_trap s trap =
    cond s.broken (Err BrokenOff, s)
    (cond (trap == 0 || nat_lt 255 trap) (Err BadBytes, s)
    (cond (traps_full s) (Err TrapsFull, s)
    (cond (labels_full s) (Err LabelsFull, s)
    (Ok (length s.labels), with_deferred (add_label s true) (s.deferred ++ record { label = length s.labels; code = trap } ∷ [])))))

-- Constants are numbered from 0.
abbrev pub register_constant : Isa → State → ℕ → ℕ → Result ℕ Refusal × State
register_constant i s size align =
    cond s.broken (Err BrokenOff, s)
    (cond (not (is_constant i size align)) (Err BadConstant, s)
    (cond (constants_full s) (Err ConstantsFull, s)
    (Ok (length s.constants), with_constants s (s.constants ++ record { size = size; align = align; label = None } ∷ []))))

-- a constant requested, where it is pending under a label or not pending
abbrev pub request : Option ℕ → State → ℕ → Result ℕ Refusal × State
request (Some l) s n = (Ok l, s)
request None s n =
    cond (requests_full s) (Err ConstantsFull, s)
    (cond (labels_full s) (Err LabelsFull, s)
    (Ok (length s.labels), with_requested (with_constants (add_label s true) (label_constant s n (Some (length s.labels)))) (s.requested ++ n ∷ [])))

-- The next island places a constant. The answer is its label, the same one for every request up to then.
abbrev pub get_label_for_constant : State → ℕ → Result ℕ Refusal × State
get_label_for_constant s n =
    cond s.broken (Err BrokenOff, s)
    (cond (nat_le (length s.constants) n) (Err NoSuchConstant, s)
    (request (constant_row s n).label s n))

-- The branches are simplified.
abbrev pub optimize_branches : State → Bool → Result (Unit {0}) Refusal × State
optimize_branches s skip =
    cond s.broken (Err BrokenOff, s)
    (cond (is_open s) (Err RegionOpen, s)
    (Ok tt, simplified skip s))

-- A region is opened at the current offset. Regions are numbered from 0.
abbrev pub start_patchable : State → Result ℕ Refusal × State
start_patchable s =
    cond s.broken (Err BrokenOff, s)
    (cond (is_open s) (Err RegionOpen, s)
    (cond (regions_full s) (Err RegionsFull, s)
    (Ok (length s.regions), with_opened s (Some (cur_offset s)))))

-- the region from an offset to the current one
abbrev pub region_from : State → ℕ → Region
region_from s start = record { start = start; len = cur_offset s - start }

-- closing the region of a number, where one is open or none
abbrev pub close : Option ℕ → State → ℕ → Result Region Refusal × State
close None s n = (Err RegionOpen, s)
close (Some start) s n =
    cond (not (n == length s.regions)) (Err RegionOpen, s)
    (Ok (region_from s start), with_regions (with_opened s None) (s.regions ++ region_from s start ∷ []))

-- The open region is closed, if it has the number given. The answer is where it lies.
abbrev pub end_patchable : State → ℕ → Result Region Refusal × State
end_patchable s n = close s.opened s n
