-- Questions, which change nothing; a third is `cur_offset` of the tables.
use Rattle.std.specs.Prelude.{ℕ, min, Bool, cond, Ok, Err, Result, nat_lt}
use Rattle.isa.specs.Isa.{Isa}
use Rattle.model.specs.declared.refusals.Refusal.{Refusal}
use Rattle.model.specs.declared.refusals.Refusal.TheVariants.{NoSuchLabel}
use Rattle.model.specs.State.{State}
use Rattle.model.specs.Labels.{offset_of}
use Rattle.model.specs.Fixups.{least_deadline}
use Rattle.model.specs.Calls.{no_label}
use Rattle.model.specs.Islands.{threshold}

-- The offset that a label resolves to along its aliases.
abbrev pub resolve_label_offset : State → ℕ → Result ℕ Refusal
resolve_label_offset s l = cond (no_label s l) (Err NoSuchLabel) (Ok (offset_of s.labels l))

-- Whether a fixup may be out of reach if so many bytes come before the next island.
abbrev pub island_needed : Isa → State → ℕ → Bool
island_needed i s distance = nat_lt (min s.deadline (least_deadline s.held)) (threshold i s distance)
