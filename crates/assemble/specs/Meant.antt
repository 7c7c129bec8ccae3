-- The calls that a script means.
use Rattle.std.specs.Prelude.{List, map, vec_items}
use Rattle.model.specs.Steps as model
use Rattle.replay.specs.Calls.{call_of}
use Rattle.assemble.specs.declared.line.ScriptCall.{ScriptCall}
use Rattle.assemble.specs.declared.line.ScriptCall.TheVariants.{Plain, PutData, UseLabelAtOffset, AddUncondBranch, AddCondBranch}
use Rattle.assemble.specs.declared.script.Script.{Script}
use Rattle.assemble.specs.declared.script.ScriptLine.{ScriptLine}

abbrev pub call_meant : ScriptCall → model.Call
call_meant (Plain c) = call_of c
call_meant (PutData trap bytes) = model.PutData trap (vec_items bytes)
call_meant (UseLabelAtOffset l k bytes) = model.UseLabelAtOffset l k (vec_items bytes)
call_meant (AddUncondBranch l k bytes) = model.AddUncondBranch l k (vec_items bytes)
call_meant (AddCondBranch l k bytes inverted) = model.AddCondBranch l k (vec_items bytes) (vec_items inverted)

-- one call for each line
abbrev pub calls_meant : Script → List model.Call
calls_meant s = map (λ (l : ScriptLine). call_meant l.call) (vec_items s.lines)
