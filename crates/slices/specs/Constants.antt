-- The rows of constants.
use Rattle.std.specs.Prelude.{None}
use Rattle.model.specs.declared.rows.Constant.{Constant}

-- what stands for a constant where there is none
abbrev pub no_constant : Constant
no_constant = record { size = 0; align = 1; label = None }
