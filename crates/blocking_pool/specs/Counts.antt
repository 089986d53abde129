-- The counts of a pool's workers, and the bell.
use Rattle.std.specs.Prelude.{ℕ, ◌+◌, ◌-◌, ◌≤◌, if◌then◌else◌, Bool, Option, Some, None, unwrap_or}
use Rattle.std.specs.Prelude.{nat_lt, refl}
use Rattle.std.specs.Coded.{Coded, code_by, coded×, coded_ℕ, coded_option}
use Rattle.blocking_pool.specs.declared.pool.bell.BellKind.{BellKind}
use Rattle.blocking_pool.specs.declared.pool.bell.BellKind.TheVariants.{Silent, One, All}
use Rattle.blocking_pool.specs.contracts.pool.bell.BellKind.{the_row}

-- The workers, arrived or not; those of them that run no job; those of these that haven't arrived;
-- the limit, once it stands; the number that the setting gives; the number of the next start; and
-- what rang since the bell was last asked.
pub record Counts : Type 0 where
  pub workers : ℕ
  pub idle : ℕ
  pub arriving : ℕ
  pub limit : Option ℕ
  pub setting : ℕ
  pub next_worker : ℕ
  pub bell : BellKind

abbrev pub counts_code : Coded Counts
counts_code =
    code_by
    (ℕ × (ℕ × (ℕ × (Option ℕ × (ℕ × (ℕ × BellKind))))))
    (coded× coded_ℕ (coded× coded_ℕ (coded× coded_ℕ
    (coded× (coded_option coded_ℕ) (coded× coded_ℕ (coded× coded_ℕ the_row.coded))))))
    (λ c. (c.workers, (c.idle, (c.arriving, (c.limit, (c.setting, (c.next_worker, c.bell)))))))
    (λ p. record {
      workers = p.0;
      idle = p.1.0;
      arriving = p.1.1.0;
      limit = p.1.1.1.0;
      setting = p.1.1.1.1.0;
      next_worker = p.1.1.1.1.1.0;
      bell = p.1.1.1.1.1.1;
    })
    (λ _. refl)

-- no worker yet
abbrev pub no_workers : ℕ → ℕ → Counts
no_workers setting next_worker = record {
  workers = 0;
  idle = 0;
  arriving = 0;
  limit = None;
  setting = setting;
  next_worker = next_worker;
  bell = Silent;
}

-- the limit that a growth goes by: the one that stands, else the setting's
abbrev pub limit_of : Counts → ℕ
limit_of counts = unwrap_or counts.limit counts.setting

-- the greater of two rings
abbrev pub louder : BellKind → BellKind → BellKind
louder Silent ring = ring
louder All ring = All
louder One All = All
louder One _ = One

-- the counts after a ring
abbrev pub after_ring : BellKind → Counts → Counts
after_ring ring counts = record counts { bell = louder ring counts.bell }

-- a worker takes a job up
abbrev pub after_pickup : Counts → Counts
after_pickup counts = record counts { idle = counts.idle - 1 }

-- a worker is free again
abbrev pub after_release : Counts → Counts
after_release counts = record counts { idle = counts.idle + 1 }

-- a worker arrives
abbrev pub after_arrival : Counts → Counts
after_arrival counts = record counts { arriving = counts.arriving - 1 }

-- a worker stops, and one is notified where a job is queued
abbrev pub after_stop : Bool → Counts → Counts
after_stop is_queued counts = after_ring (if is_queued then One else Silent)
    (record counts { workers = counts.workers - 1; idle = counts.idle - 1 })

-- whom a new limit notifies: all, where a limit stood and was greater
abbrev pub ring_of_limit : ℕ → Option ℕ → BellKind
ring_of_limit limit None = Silent
ring_of_limit limit (Some earlier) = if nat_lt limit earlier then All else Silent

-- the limit is set
abbrev pub after_limit : ℕ → Counts → Counts
after_limit limit counts = record counts {
  limit = Some limit;
  bell = louder (ring_of_limit limit counts.limit) counts.bell;
}

-- the bell was asked
abbrev pub after_bell : Counts → Counts
after_bell counts = record counts { bell = Silent }

-- those that haven't arrived are idle, and the idle ones are workers
pub record AreInOrder (counts : Counts) : Type 0 where
  pub arriving : counts.arriving ≤ counts.idle
  pub idle : counts.idle ≤ counts.workers
