-- The calls and answers of the code, as the definitions have them.
use Rattle.std.specs.Prelude.{Bool, true, false, Result}
use Rattle.model.specs.Steps as model
use Rattle.model.specs.declared.refusals.Refusal.{Refusal}
use Rattle.replay.specs.declared.calls.Reply.{Reply}
use Rattle.replay.specs.declared.calls.Reply.TheVariants.{Granted, Number, Closed, YesNo}
use Rattle.replay.specs.declared.calls.Call.{Call}
use Rattle.replay.specs.declared.calls.Call.TheVariants.{GetLabel, BindLabel, PutData, AlignTo, UseLabelAtOffset, AddUncondBranch, AddCondBranch, DeferTrap, RegisterConstant, GetLabelForConstant, OptimizeBranches, StartPatchable, EndPatchable, CurOffset, ResolveLabelOffset, IslandNeeded}

abbrev pub call_of : Call → model.Call
call_of GetLabel = model.GetLabel
call_of (BindLabel l skip) = model.BindLabel l skip
call_of (PutData trap bytes) = model.PutData trap bytes.now
call_of (AlignTo n) = model.AlignTo n
call_of (UseLabelAtOffset l k bytes) = model.UseLabelAtOffset l k bytes.now
call_of (AddUncondBranch l k bytes) = model.AddUncondBranch l k bytes.now
call_of (AddCondBranch l k bytes inverted) = model.AddCondBranch l k bytes.now inverted.now
call_of (DeferTrap trap) = model.DeferTrap trap
call_of (RegisterConstant size align) = model.RegisterConstant size align
call_of (GetLabelForConstant n) = model.GetLabelForConstant n
call_of (OptimizeBranches skip) = model.OptimizeBranches skip
call_of StartPatchable = model.StartPatchable
call_of EndPatchable = model.EndPatchable
call_of CurOffset = model.CurOffset
call_of (ResolveLabelOffset l) = model.ResolveLabelOffset l
call_of (IslandNeeded distance) = model.IslandNeeded distance

abbrev pub reply_of : Reply → model.Answer
reply_of Granted = model.Granted
reply_of (Number n) = model.Number n
reply_of (Closed r) = model.Closed r
reply_of (YesNo b) = model.YesNo b

abbrev pub answer_of : Result Reply Refusal → model.Answer
answer_of a = model.answer_of reply_of a

-- a call that opens and closes no region
abbrev pub is_plain : Call → Bool
is_plain StartPatchable = false
is_plain EndPatchable = false
is_plain _ = true
