-- No new job was refused, and the first owner's last act has no place in its poll.
use Rattle.std.proofs.Common.{refl}
use Rattle.blocking_world_laws.proofs.laws.readings.owners_alone.Goals as goal

pub returns-clause-refuses_unlawful_owner : goal.returns-clause-refuses_unlawful_owner
returns-clause-refuses_unlawful_owner c = λ all. (all refl 0).laws.0.acts
