-- New assemblies are lawful.
use Rattle.std.proofs.Common.{◌≡◌, ◌<◌, ℕ, List, [], Bool, refl, sym, subst}
use Rattle.blocking_pool.specs.Pools.{empty_pool}
use Rattle.blocking_world_state.proofs.laws.Legality.{begins_lawful}
use Rattle.blocking_world_copiers.specs.Assemblies.{Assembled}
use Rattle.blocking_world_copiers.specs.Ties.{IsLawful}

-- an assembly with no job, no task, no owner, no worker and no copier
abbrev pub first_assembly : ℕ → Assembled
first_assembly setting =
    record {
      parts = record {
        crew = record { pool = empty_pool setting 1 1; hands = [] };
        rows = [];
        tasks = [];
        owners = [];
      };
      copiers = [];
      made = 0;
    }

begins : (setting : ℕ) (plan : List Bool) → 0 < setting
    → IsLawful setting plan (first_assembly setting) []
begins setting plan positive =
    let parts = begins_lawful setting plan positive in
    record {
      parts = parts;
      copied = record { shown_are = refl; made_is = refl; apart = tt; each = tt };
      legal = record {
        steps = tt;
        pool = parts.legal.pool;
        owners = parts.legal.owners;
        tasks = parts.legal.tasks;
        wakes = parts.legal.wakes;
        owner_wakes = parts.legal.owner_wakes;
        served = parts.legal.served;
        staffed = parts.legal.staffed;
        copies = tt;
      };
    }

pub begun : (setting : ℕ) (plan : List Bool) (w : Assembled) → w ≡ first_assembly setting
    → 0 < setting → IsLawful w.parts.crew.pool.counts.setting plan w []
begun setting plan w is positive =
    subst (λ (v : Assembled). IsLawful v.parts.crew.pool.counts.setting plan v []) (sym is)
    (begins setting plan positive)
