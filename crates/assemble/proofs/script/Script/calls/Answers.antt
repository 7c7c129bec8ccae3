use Rattle.std.proofs.Common.{◌≡◌, IfOk, map, vec_items, rules}
use Rattle.std.proofs.lemmas.Iterator.{YieldsList-from_slice, YieldsList-from_map_by}
use Rattle.std.proofs.lemmas.Iterator.Consumers.{map_from_collect}
use Rattle.replay.specs.Calls.{call_of}
use Rattle.assemble.specs.Meant.{call_meant, calls_meant}
use Rattle.assemble.specs.declared.script.ScriptLine.{ScriptLine}
use Rattle.assemble.proofs.script.Script.calls.Goals as goal

pub returns : goal.returns
returns c =
    let collected : IfOk c.collect.result (λ v. map call_of (vec_items v) ≡ calls_meant c.args.self.now) =
    map_from_collect _ c.collect.ensures.ran (YieldsList-from_map_by _ call_of (λ (l : ScriptLine). call_meant l.call)
    (YieldsList-from_slice (vec_items c.args.self.now.lines) (search rules)) c.map.ensures.closure (λ x r q k. search rules)) in
    search rules
