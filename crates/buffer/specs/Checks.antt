-- The checks that uses and branches have in common, in their order.
use Rattle.std.specs.Prelude.{ℕ, cond, List, length, Ok, Err, Option, Result, nat_le}
use Rattle.isa.specs.Isa.{Isa}
use Rattle.model.specs.declared.refusals.Refusal.{Refusal}
use Rattle.model.specs.declared.refusals.Refusal.TheVariants.{BrokenOff, RegionOpen, NoSuchLabel, NoSuchKind, NotAligned, FixupsFull, BranchesFull, CodeFull}
use Rattle.model.specs.State.{State, cur_offset, is_open}
use Rattle.model.specs.Calls.{no_label, misaligned, append_branch}
use Rattle.model.specs.Full.{no_room, fixups_full, branches_full}

-- a label and a kind that a use may have
abbrev pub check_target : Isa → State → ℕ → ℕ → Result (Unit {0}) Refusal
check_target i s l k =
    cond s.broken (Err BrokenOff)
    (cond (is_open s) (Err RegionOpen)
    (cond (no_label s l) (Err NoSuchLabel)
    (cond (nat_le i.kinds k) (Err NoSuchKind)
    (Ok tt))))

-- a branch, once its target and its bytes were checked
abbrev pub place_branch : Isa → State → ℕ → ℕ → List ℕ → Option (List ℕ) → Result ℕ Refusal × State
place_branch i s l k bytes inverted =
    cond (misaligned i s) (Err NotAligned, s)
    (cond (fixups_full s) (Err FixupsFull, s)
    (cond (branches_full s) (Err BranchesFull, s)
    (cond (no_room s (length bytes)) (Err CodeFull, s)
    (Ok (cur_offset s), append_branch i s l k bytes inverted))))
