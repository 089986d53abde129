-- So far each line may stand where it stands, and the script says what the lines say.
use Rattle.std.proofs.Common.{take, map}
use Rattle.blk_commands.specs.Scripts.{AllMayStand, IsScriptOf}
use Rattle.blk_commands.proofs.script.read_script.Given as goal

abbrev pub invariant-loop-place : goal.invariant-loop-place
invariant-loop-place l = record {
  stand : AllMayStand (map (λ line. line.now) l.line-items) l.place;
  script : IsScriptOf (take l.place (map (λ line. line.now) l.line-items)) l.script;
}
