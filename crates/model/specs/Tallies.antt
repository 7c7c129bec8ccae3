-- How many uses of labels a call accepts, makes, patches and removes.
use Rattle.std.specs.Prelude.{ℕ, ◌+◌, false, cond, Some, None, Option}
use Rattle.isa.specs.Isa.{Isa}
use Rattle.model.specs.declared.refusals.Refusal.{Refusal}
use Rattle.model.specs.State.{State, is_open}
use Rattle.model.specs.Simplify.{cuts}
use Rattle.model.specs.Calls.{bind}
use Rattle.model.specs.Progress.{Progress}
use Rattle.model.specs.Islands.{island}
use Rattle.model.specs.Finish.{unfit, all_islands}
use Rattle.model.specs.Steps.{Call, GetLabel, BindLabel, PutData, AlignTo, UseLabelAtOffset, AddUncondBranch, AddCondBranch, DeferTrap, RegisterConstant, GetLabelForConstant, OptimizeBranches, StartPatchable, EndPatchable, EmitIsland, Finish, CurOffset, ResolveLabelOffset, IslandNeeded, Answer, Granted, Number, Closed, YesNo, Finished, Refused, step}

-- four counts, each from 0 and without an upper bound
pub record Tally : Type 0 where
  pub accepted : ℕ  -- uses and branches granted
  pub made : ℕ  -- veneers, of which each has a use of its own
  pub patched : ℕ  -- uses patched by an island
  pub removed : ℕ  -- uses cut with their branch

-- a tally in one line
abbrev pub tally_of : ℕ → ℕ → ℕ → ℕ → Tally
tally_of a m p r = record { accepted = a; made = m; patched = p; removed = r }

-- nothing counted
abbrev pub no_tally : Tally
no_tally = tally_of 0 0 0 0

-- two tallies together
abbrev pub sum_of : Tally → Tally → Tally
sum_of x y = tally_of (x.accepted + y.accepted) (x.made + y.made) (x.patched + y.patched) (x.removed + y.removed)

-- a tally, if the call was granted
abbrev pub if_granted : Answer → Tally → Tally
if_granted Granted t = t
if_granted (Number n) t = t
if_granted (Closed r) t = t
if_granted (YesNo b) t = t
if_granted (Finished n) t = t
if_granted (Refused e) t = no_tally

-- what islands made and patched counts, also if the last one broke off
abbrev pub of_islands : Progress → Tally
of_islands p = tally_of 0 p.made p.patched 0

-- finishing has no islands where it is refused before
abbrev pub of_finish : Option Refusal → Progress → Tally
of_finish None p = of_islands p
of_finish (Some e) p = no_tally

-- what a call counts, by the tables before it
abbrev pub tally : Isa → State → Call → Tally
tally i s GetLabel = no_tally
tally i s (BindLabel l skip) = if_granted (step i s (BindLabel l skip)).0 (tally_of 0 0 0 (cuts skip (bind s l)))
tally i s (PutData trap bytes) = no_tally
tally i s (AlignTo n) = no_tally
tally i s (UseLabelAtOffset l k bytes) = if_granted (step i s (UseLabelAtOffset l k bytes)).0 (tally_of 1 0 0 0)
tally i s (AddUncondBranch l k bytes) = if_granted (step i s (AddUncondBranch l k bytes)).0 (tally_of 1 0 0 0)
tally i s (AddCondBranch l k bytes inverted) = if_granted (step i s (AddCondBranch l k bytes inverted)).0 (tally_of 1 0 0 0)
tally i s (DeferTrap trap) = no_tally
tally i s (RegisterConstant size align) = no_tally
tally i s (GetLabelForConstant n) = no_tally
tally i s (OptimizeBranches skip) = if_granted (step i s (OptimizeBranches skip)).0 (tally_of 0 0 0 (cuts skip s))
tally i s StartPatchable = no_tally
tally i s EndPatchable = no_tally
tally i s (EmitIsland distance) = cond s.broken no_tally (cond (is_open s) no_tally (of_islands (island i false distance s)))
tally i s (Finish force pool) = of_finish (unfit s pool) (all_islands i force s)
tally i s CurOffset = no_tally
tally i s (ResolveLabelOffset l) = no_tally
tally i s (IslandNeeded distance) = no_tally
