use Rattle.blocking_schedule.proofs.InWords.{nobody_is_forgotten, each_has_its_ring, few_have_none}
use Rattle.blocking_schedule.proofs.InWords.{nobody_sleeps_over_the_limit, alone}
use Rattle.blocking_schedule.proofs.schedule.Schedule.readings.Goals as goal

pub returns : goal.returns
returns c =
    record {
      forgotten = nobody_is_forgotten c.args.self.now.threads.items c.args.self.now.pool
          c.args.self.now.is_locked c.args.self.now.is_manned c.args.self.now.is_queued c.requires;
      each = each_has_its_ring c.args.self.now.threads.items c.args.self.now.pool
          c.args.self.now.is_locked c.args.self.now.is_manned c.args.self.now.is_queued c.requires;
      few = few_have_none c.args.self.now.threads.items c.args.self.now.pool
          c.args.self.now.is_locked c.args.self.now.is_manned c.args.self.now.is_queued c.requires;
      limit = nobody_sleeps_over_the_limit c.args.self.now.threads.items c.args.self.now.pool
          c.args.self.now.is_locked c.args.self.now.is_manned c.args.self.now.is_queued c.requires;
      alone = alone c.args.self.now.threads.items c.args.self.now.pool c.args.self.now.is_locked
          c.args.self.now.is_manned c.args.self.now.is_queued c.requires;
    }
