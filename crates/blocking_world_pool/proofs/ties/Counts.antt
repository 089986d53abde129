-- Each move keeps the counts of a crew what the past tells.
use Rattle.std.proofs.Common.{[], ◌≡◌, ℕ, ◌<◌, ◌≤◌, ◌+◌, ◌==◌, min, List, ◌∷◌, Bool, false, cond}
use Rattle.std.proofs.Common.{length, length-append, refl, sym, ap, ◌∙◌, ap₂, arith, if◌then◌else◌}
use Rattle.std.proofs.Common.{Option, Some, None, ◌||◌, filter}
use Rattle.std.proofs.lemmas.Bool.Decides.{nat_tests}
use Rattle.blocking_world_pool.proofs.Types.{WorkerPass, Act, Moment, Party, Step, Free}
use Rattle.blocking_world_pool.proofs.Words.{limit_of, greatest, Growth, number_after, limit_after}
use Rattle.blocking_world_pool.proofs.Words.{one_if, added, starts, refused_starts, is_arrival}
use Rattle.blocking_world_pool.proofs.Words.{arrivals, is_stop, workers, limit, grows, IsPlanned}
use Rattle.blocking_world_pool.proofs.Words.{has_limit, running, Crew, one_if_busy, busy_hands}
use Rattle.blocking_world_pool.proofs.Words.{Move, Arrives, SetsLimit, SetsClientLimit, call_of}
use Rattle.blocking_world_pool.proofs.Words.{next_start, after, May, no_growth, Counted, CrewHolds}
use Rattle.blocking_world_pool.proofs.Words.{moment_of, IsAsked}
use Rattle.blocking_world_laws.specs.Counts.{stops as all_stops}
use Rattle.blocking_world_pool.proofs.hands.Rows.{sum_pushed}
use Rattle.blocking_world_pool.proofs.ties.Acts.{now_with, Steady}
use Rattle.blocking_world_pool.proofs.ties.Flows.{GrewBy, flows, gone_of, growth_in, workers_now}

-- ---- numbers of a growth

-- what is added is a sum
pub added_is : (n m : ℕ) → added n m ≡ n + m
added_is n m = grind arith

number_if : (r : Bool) (n : ℕ)
    → number_after n r ≡ (if r then if n == greatest then n else n + 1 else n)
number_if r n = grind arith

-- the number of the next start, after these starts and the one that was refused, if one was
next_by : (r : Bool) (bound first started begun refusals : ℕ)
    → first ≡ min (1 + begun + refusals) bound → (first ≤ bound → first + started ≤ bound)
    → (if r then if first + started == bound then first + started else first + started + 1
    else first + started) ≡ min (1 + (begun + started) + (refusals + one_if r)) bound
next_by r bound first started begun refusals is within = grind (arith, nat_tests, is, within)

count_one : (b : Bool) (now : Moment) (past : List Moment)
    → length (cond b (now ∷ past) past) ≡ length past + one_if b
count_one b now past = grind arith

module _ (setting : ℕ) (plan : List Bool) (crew : Crew) (past : List Moment) (step : Step)
    (owner : Option ℕ) (h : CrewHolds setting plan crew past) where
  abbrev now : Party → Option ℕ → Act → Growth → Moment
  now who job act growth = now_with step owner who job act (next_start crew) growth

  known_by : (grew had : Bool) (most later : ℕ) (new : Option ℕ)
      → new ≡ (if grew then Some later else (if had then Some most else None))
      → (grew ≡ false → later ≡ most) → new ≡ (if grew || had then Some later else None)
  known_by grew had most later new is same = grind (arith, is, same)

  -- the counts after a move at which the pool grew or didn't, by how many workers were idle before
  -- it and run now
  counted_by : (gone free : ℕ) (new : Crew) (last : Moment) → Steady gone last.event.act
      → GrewBy gone (record crew.pool.counts { idle = free }) new.pool.counts (growth_in last)
      (grows past last.event.act)
      → crew.pool.counts.workers ≡ free + length (running (last ∷ past))
      → length new.hands ≡ length crew.hands → busy_hands new.hands ≡ length (running (last ∷ past))
      → Counted setting new (last ∷ past)
  counted_by gone free new last steady g balance hands busy =
      let c = h.tied.counted in
      let more = added_is (starts past) last.event.started in
      let stopped = count_one (is_stop last.event.act) last
      (filter (λ (m : Moment). is_stop m.event.act) past) in
      let came = count_one (is_arrival last.event.act) last
      (filter (λ (m : Moment). is_arrival m.event.act) past) in
      let refused = count_one last.event.start_refused last
      (filter (λ (m : Moment). m.event.start_refused) past) in
      let none : one_if (is_arrival last.event.act) ≡ 0 = ap one_if steady.came in
      let stops_now : all_stops (last ∷ past) ≡ all_stops past + gone =
      stopped ∙ ap (λ n. all_stops past + n) steady.stop in
      let arrived : arrivals (last ∷ past) ≡ arrivals past = omega (arith, came, none) in
      let gw = g.workers in
      let gi = g.idle in
      let ga = g.arriving in
      let cw = c.workers_are in
      let ca = c.arriving_are in
      let most : limit_of new.pool.counts ≡ limit setting (last ∷ past) =
      g.most ∙ ap₂ (λ l n. limit_after l (n + last.event.started) last.event.start_refused)
      (c.limit_is ∙ sym (steady.most (limit setting past)))
      (workers_now setting plan crew past step owner h) in
      record {
        workers_are = omega (arith, more, cw, gw, stops_now);
        idle_are = omega (arith, gw, gi, balance);
        arriving_are = omega (arith, more, ca, ga, arrived);
        hands_are = hands ∙ c.hands_are ∙ sym arrived;
        busy_are = busy;
        setting_is = g.setting ∙ c.setting_is;
        limit_is = most;
        known_is =
            known_by (grows past last.event.act) (has_limit past) (limit setting past)
            (limit setting (last ∷ past)) new.pool.counts.limit
            (g.limit ∙ ap₂ (λ l o. if grows past last.event.act then Some l else o) most c.known_is)
            (λ e. let no : growth_in last ≡ no_growth = g.none e in
            ap₂ (λ l (q : Growth). limit_after l (workers past + q.started) q.refused)
            (steady.most (limit setting past)) no)
            ∙ ap (λ b. if b || grows past last.event.act || has_limit past
            then Some (limit setting (last ∷ past)) else None) (sym steady.set);
        next_is =
            g.next
            ∙ number_if last.event.start_refused (crew.pool.counts.next_worker + last.event.started)
            ∙ next_by last.event.start_refused greatest crew.pool.counts.next_worker
            last.event.started (starts past) (refused_starts past) c.next_is g.numbers
            ∙ ap₂ (λ a b. min (1 + a + b) greatest) (sym more) (sym refused);
      }

  -- ---- each move

  arrives : (pass : WorkerPass) → 0 < crew.pool.counts.arriving → Counted setting
      (after crew (Arrives pass)) (moment_of crew (Arrives pass) step owner ∷ past)
  arrives pass some =
      let c = h.tied.counted in
      let arriving_are = c.arriving_are in
      let hands_are = c.hands_are in
      let busy_are = c.busy_are in
      let longer = length-append crew.hands (Free pass ∷ []) in
      let busier = sum_pushed one_if_busy crew.hands (Free pass) in
      record {
        workers_are = c.workers_are;
        idle_are = c.idle_are;
        arriving_are = omega (arith, arriving_are, some);
        hands_are = omega (arith, hands_are, longer);
        busy_are = omega (arith, busier, busy_are);
        setting_is = c.setting_is;
        limit_is = c.limit_is;
        known_is = c.known_is;
        next_is = c.next_is;
      }

  sets_limit : (n : ℕ)
      → Counted setting (after crew (SetsLimit n)) (moment_of crew (SetsLimit n) step owner ∷ past)
  sets_limit n = grind arith

  sets_client_limit : (limit : Option ℕ) → Counted setting (after crew (SetsClientLimit limit))
      (moment_of crew (SetsClientLimit limit) step owner ∷ past)
  sets_client_limit limit = grind arith

  -- Each move keeps the counts what the past tells.
  pub counts_after : (move : Move)
      → May (IsPlanned plan) crew move → IsAsked crew past step (call_of move)
      → Counted setting (after crew move) (moment_of crew move step owner ∷ past)
  counts_after (Arrives pass) may asked = arrives pass may
  counts_after (SetsLimit n) may asked = sets_limit n
  counts_after (SetsClientLimit limit) may asked = sets_client_limit limit
  counts_after move may asked =
      let f = flows setting plan crew past step owner h move may asked refl in
      counted_by (gone_of move) f.free (after crew move) (moment_of crew move step owner) f.steady
      f.grew f.balance f.hands f.busy
