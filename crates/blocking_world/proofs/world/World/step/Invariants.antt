use Rattle.blocking_world.proofs.world.World.step.Given as goal

abbrev pub ghosts-step_with : goal.ghosts-step_with
ghosts-step_with a = record { name = a.blank.name; parts = a.blank.parts }
