-- One encoding more, up to the largest number.
use Rattle.std.specs.Prelude.{ℕ, ◌+◌, ◌-◌, ◌^◌, min, Bool, cond}
use Rattle.vectors.specs.declared.tally.Count.{Count}

abbrev pub more : ℕ → ℕ
more n = min (n + 1) (2 ^ 64 - 1)

abbrev pub added : Count → Bool → Count
added c is_equal = record { all = more c.all; equal = cond is_equal (more c.equal) c.equal }
