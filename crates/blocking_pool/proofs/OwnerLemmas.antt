-- How the table's queue by clients follows a change of one place, and which serials are ready.
use Rattle.std.proofs.Common.{◌≡◌, ◌≢◌, ℕ, ◌<◌, ◌≤◌, Bool, true, false, not, eqb, List, [], ◌∷◌}
use Rattle.std.proofs.Common.{◌++◌, length, filter, set, Some, None, option_map, is_some, IsSome}
use Rattle.std.proofs.Common.{refl, sym, ap, ◌∙◌, subst, inl, inr, arith}
use Rattle.std.proofs.lemmas.Bool.{cases_eq, false≢true}
use Rattle.std.proofs.lemmas.List.{length-set, get_or-set_same, get_or-set_other}
use Rattle.std.specs.FinMap.{get as at}
use Rattle.slab.specs.Slab.{Slab, get, Updates}
use Rattle.blocking_pool.specs.Chain.{Chain}
use Rattle.blocking_pool.specs.Clients.{Tally, tally_at, has_room_at}
use Rattle.blocking_pool.specs.Jobs.{is_queued, is_running}
use Rattle.blocking_pool.specs.Lists.{is_in, IsOnce, without, first_of}
use Rattle.blocking_pool.specs.Queue.{Queue, owner_at, chain_of, line_in, ready_in, Widens}
use Rattle.blocking_pool.specs.Ready.{client_of}
use Rattle.blocking_pool.specs.Tables.{serial_or_zero, serials_at, table_of, IsTable, AreOwned}
use Rattle.blocking_pool.specs.Tables.{IsKept, is_parked_entry, ready_of, queued_for}
use Rattle.blocking_pool.specs.declared.pool.table.Entry.{Entry}
use Rattle.blocking_pool.proofs.Lists.{is_in-last, is_in-push, is_in-without, is_in-without_itself}
use Rattle.blocking_pool.proofs.Lists.{IsOnce-without, IsOnce-push, filter-map, first_of-map}
use Rattle.blocking_pool.proofs.Lists.{first_in, kept_in}
use Rattle.blocking_pool.proofs.TableLemmas.{jobs_of, tabled, Follows, some_or_none}

-- The queue has these places, owners and tallies now, and its limit stands.
pub record QueueIs (old new : Queue) (places owners : List ℕ) (tallies : ℕ → Tally) : Type 0 where
  pub places_are : new.places ≡ places
  pub owners_are : new.owners ≡ owners
  pub tallies_are : (client : ℕ) → tally_at new.tallies client ≡ tallies client
  pub limit_is : new.limit ≡ old.limit

-- such a queue as a chain
pub chain_as : (old new : Queue) (places owners : List ℕ) (tallies : ℕ → Tally)
    → QueueIs old new places owners tallies
    → chain_of new ≡ record { places = places; room = length owners }
chain_as old new places owners tallies is =
    ap (λ ps. record { places = ps; room = length new.owners }) is.places_are
    ∙ ap (λ os. record { places = places; room = length os }) is.owners_are

-- nothing has changed
pub same_queue : (queue : Queue)
    → QueueIs queue queue queue.places queue.owners (tally_at queue.tallies)
same_queue queue =
    record { places_are = refl; owners_are = refl; tallies_are = λ c. refl; limit_is = refl }

-- a ready place is queued
pub ready_queued : (queue : Queue) (place : ℕ) → first_of (ready_in queue) ≡ Some place
    → is_in place queue.places ≡ true
ready_queued queue place first =
    (kept_in (λ p. has_room_at queue.limit queue.tallies (owner_at queue p)) place queue.places
    (first_in place (ready_in queue) first)).0

module _ {J : Type 0} where
  -- The queue follows a change of the entry at a place.
  pub record Moves (old new : Queue) (place : ℕ) (entry : Entry J) : Type 0 where
    pub follows : Follows (chain_of old) (chain_of new) place entry
    pub owner : is_in place new.places ≡ true → owner_at new place ≡ entry.client
    pub owners : (other : ℕ) → other ≢ place → owner_at new other ≡ owner_at old other

  -- each queued place is that of its entry's client, after the change too
  pub changed_owned : (old new : Slab (Entry J)) (queue next : Queue) (place : ℕ) (entry : Entry J)
      → Updates old new place (Some entry) → Moves queue next place entry → AreOwned old queue
      → AreOwned new next
  changed_owned old new queue next place entry updates moves owned q e found within =
      elim (cases_eq q place) [
        | inl same ↦
            let is : e ≡ entry = let f = updates.changed in
            let g = ap (get new) (sym same) ∙ found in cc in
            ap (owner_at next) same ∙ moves.owner
            (ap (λ n. is_in n next.places) (sym same) ∙ within) ∙ ap (λ x. x.client) (sym is)
        | inr differs ↦
            moves.owners q differs ∙ owned q e (sym (updates.others q differs) ∙ found)
            (sym (moves.follows.others q differs) ∙ within)
      ]

  -- the queue's places stay, where the entry is queued as it was
  pub stays : (queue next : Queue) (tallies : ℕ → Tally) (slab : Slab (Entry J)) (place : ℕ)
      (was is : Entry J) → IsTable slab (chain_of queue) → AreOwned slab queue
      → QueueIs queue next queue.places queue.owners tallies
      → get slab place ≡ Some was
      → is.client ≡ was.client → is_queued is.standing ≡ is_queued was.standing
      → is_some is.value ≡ not (is_running is.standing) → Moves queue next place is
  stays queue next tallies slab place was is table owned now found same alike held =
      record {
        follows = subst (λ row. Follows (chain_of queue) row place is)
            (sym (chain_as queue next queue.places queue.owners tallies now))
            (record {
              others = λ other differs. refl;
              here = table.queued place was found ∙ sym alike;
              held = held;
              room = refl;
              within = table.roomy place was found;
              once = table.once;
            });
        owner = λ within. ap (λ os. owner_at (record queue { owners = os }) place) now.owners_are
            ∙ owned place was found (sym (ap (is_in place) now.places_are) ∙ within) ∙ sym same;
        owners = λ other differs.
            ap (λ os. owner_at (record queue { owners = os }) other) now.owners_are;
      }

  -- the place is the last of the queue
  pub pushed : (queue next : Queue) (tallies : ℕ → Tally) (place : ℕ) (is : Entry J)
      → IsOnce queue.places → is_in place queue.places ≡ false → place < length queue.owners
      → QueueIs queue next (queue.places ++ place ∷ []) (set queue.owners place is.client) tallies
      → is_queued is.standing ≡ true → is_some is.value ≡ not (is_running is.standing)
      → Moves queue next place is
  pushed queue next tallies place is once fresh within now queued held =
      record {
        follows = subst (λ row. Follows (chain_of queue) row place is) (sym (chain_as queue next
            (queue.places ++ place ∷ []) (set queue.owners place is.client) tallies now))
            (record {
              others = λ other differs. is_in-push other place queue.places differs;
              here = is_in-last place place queue.places refl ∙ sym queued;
              held = held;
              room = length-set queue.owners place is.client;
              within =
                  subst (λ n. place < n) (sym (length-set queue.owners place is.client)) within;
              once = IsOnce-push queue.places place once fresh;
            });
        owner = λ among. ap (λ os. owner_at (record queue { owners = os }) place) now.owners_are
            ∙ get_or-set_same queue.owners place is.client 0 within;
        owners =
            λ other differs. ap (λ os. owner_at (record queue { owners = os }) other) now.owners_are
            ∙ get_or-set_other queue.owners place other is.client 0 differs;
      }

  -- a queued place is taken out
  pub taken_out : (queue next : Queue) (tallies : ℕ → Tally)
      (slab : Slab (Entry J)) (place : ℕ) (was is : Entry J) → IsTable slab (chain_of queue)
      → QueueIs queue next (without place queue.places) queue.owners tallies
      → get slab place ≡ Some was → is_queued is.standing ≡ false
      → is_some is.value ≡ not (is_running is.standing) → Moves queue next place is
  taken_out queue next tallies slab place was is table now found off held =
      record {
        follows = subst (λ row. Follows (chain_of queue) row place is)
            (sym (chain_as queue next (without place queue.places) queue.owners tallies now))
            (record {
              others = λ other differs. is_in-without other place queue.places differs;
              here = is_in-without_itself place queue.places ∙ sym off;
              held = held;
              room = refl;
              within = table.roomy place was found;
              once = IsOnce-without place queue.places table.once;
            });
        owner = λ among. absurd (false≢true (sym (is_in-without_itself place queue.places)
            ∙ ap (is_in place) (sym now.places_are) ∙ among));
        owners = λ other differs.
            ap (λ os. owner_at (record queue { owners = os }) other) now.owners_are;
      }

  -- the client of the job at a queued place
  client_there : (slab : Slab (Entry J)) (queue : Queue) (place : ℕ) → IsTable slab (chain_of queue)
      → AreOwned slab queue → is_in place queue.places ≡ true
      → client_of (at (jobs_of slab) (serial_or_zero (get slab place))) ≡ owner_at queue place
  client_there slab queue place table owned within =
      elim (some_or_none (get slab place)) [
        | inl none ↦
            absurd (false≢true (subst (λ e. is_some e ≡ true) none (table.occupied place within)))
        | inr there ↦
            ap (λ e. client_of (at (jobs_of slab) (serial_or_zero e))) there.1
            ∙ ap client_of ((tabled slab table.apart).here place there.0 there.1)
            ∙ sym (owned place there.0 there.1 within)
      ]

  -- what is kept of the queued serials by their client is what is kept of the places
  by_client : (slab : Slab (Entry J)) (queue : Queue) (keeps : ℕ → Bool)
      → IsTable slab (chain_of queue) → AreOwned slab queue
      → filter
      (λ serial. keeps (client_of (at (jobs_of slab) serial))) (serials_at slab queue.places)
      ≡ serials_at slab (filter (λ place. keeps (owner_at queue place)) queue.places)
  by_client slab queue keeps table owned =
      filter-map (λ serial. keeps (client_of (at (jobs_of slab) serial)))
      (λ place. keeps (owner_at queue place)) (λ place. serial_or_zero (get slab place))
      queue.places
      (λ place within. ap keeps (client_there slab queue place table owned within))

  -- the ready jobs of a table are those at the ready places
  pub ready_serials : (slab : Slab (Entry J)) (queue : Queue) (parked : Chain)
      → IsKept slab queue parked
      → ready_of (table_of slab queue parked) ≡ serials_at slab (ready_in queue)
  ready_serials slab queue parked kept =
      by_client slab queue (has_room_at queue.limit queue.tallies) kept.table kept.owned

  -- the queued jobs of a client are those at the places of its line
  pub line_serials : (slab : Slab (Entry J)) (queue : Queue) (parked : Chain) (client : ℕ)
      → IsKept slab queue parked
      → queued_for (table_of slab queue parked) client ≡ serials_at slab (line_in queue client)
  line_serials slab queue parked client kept =
      by_client slab queue (λ owner. eqb owner client) kept.table kept.owned

  -- the first ready job is at the first ready place
  pub first_serial : (slab : Slab (Entry J)) (queue : Queue) (parked : Chain) (place : ℕ)
      (entry : Entry J) → IsKept slab queue parked → first_of (ready_in queue) ≡ Some place
      → get slab place ≡ Some entry
      → first_of (ready_of (table_of slab queue parked)) ≡ Some entry.serial
  first_serial slab queue parked place entry kept first found =
      ap first_of (ready_serials slab queue parked kept)
      ∙ first_of-map (λ q. serial_or_zero (get slab q)) (ready_in queue)
      ∙ ap (option_map (λ q. serial_or_zero (get slab q))) first
      ∙ ap (λ e. Some (serial_or_zero e)) found

  -- a table with no job
  pub none_kept : (slab : Slab (Entry J)) (queue : Queue) (parked : Chain) → slab.slots ≡ []
      → queue.places ≡ [] → parked.places ≡ [] → IsKept slab queue parked
  none_kept slab queue parked empty none nobody =
      record {
        table = record {
          apart = λ p q e d found. never p e found;
          queued = λ q e found. never q e found;
          occupied = λ q within. absurd (false≢true (sym (ap (is_in q) none) ∙ within));
          held = λ q e found. never q e found;
          once = subst IsOnce (sym none) tt;
          roomy = λ q e found. never q e found;
        };
        holds = record {
          each = λ q. ap (is_in q) nobody ∙ sym (ap is_parked_entry (vacant q));
          once = subst IsOnce (sym nobody) tt;
          roomy = λ q e found. never q e found;
        };
        owned = λ q e found. never q e found;
      }
    where
      vacant : (q : ℕ) → get slab q ≡ None
      vacant q = ap (λ slots. get (record slab { slots = slots }) q) empty

      never : {P : Type 0} (q : ℕ) (e : Entry J) → get slab q ≡ Some e → P
      never q e found = absurd (let none = vacant q in cc)

  -- rows that may hold more places are kept as they were
  wider : (old new : Slab (Entry J)) (queue next : Queue) (parked later : Chain)
      → ((q : ℕ) → get new q ≡ get old q) → IsKept old queue parked → next.places ≡ queue.places
      → length queue.owners ≤ length next.owners
      → ((place : ℕ) → place < length queue.owners → owner_at next place ≡ owner_at queue place)
      → later.places ≡ parked.places → parked.room ≤ later.room → IsKept new next later
  wider old new queue next parked later values kept places more owners same as_wide =
      record {
        table = record {
          apart = λ p q e d at_p at_q. kept.table.apart p q e d (was p e at_p) (was q d at_q);
          queued = λ q e found. ap (is_in q) places ∙ kept.table.queued q e (was q e found);
          occupied = λ q within. subst IsSome (sym (values q))
              (kept.table.occupied q (ap (is_in q) (sym places) ∙ within));
          held = λ q e found. kept.table.held q e (was q e found);
          once = subst IsOnce (sym places) kept.table.once;
          roomy = λ q e found. omega (arith, more, kept.table.roomy q e (was q e found));
        };
        holds = record {
          each = λ q. ap (is_in q) same ∙ kept.holds.each q ∙ sym (ap is_parked_entry (values q));
          once = subst IsOnce (sym same) kept.holds.once;
          roomy = λ q e found. omega (arith, as_wide, kept.holds.roomy q e (was q e found));
        };
        owned = λ q e found within. owners q (kept.table.roomy q e (was q e found))
            ∙ kept.owned q e (was q e found) (ap (is_in q) (sym places) ∙ within);
      }
    where
      was : (q : ℕ) (e : Entry J) → get new q ≡ Some e → get old q ≡ Some e
      was q e found = sym (values q) ∙ found

  -- room was made
  pub reserved : (old new : Slab (Entry J)) (queue next : Queue) (parked later : Chain)
      → IsKept old queue parked → new ≡ record old { capacity = new.capacity } → Widens queue next
      → later.places ≡ parked.places → parked.room ≤ later.room
      → IsKept new next later
  reserved old new queue next parked later kept same widens places room =
      wider old new queue next parked later (λ q. ap (λ slab. get slab q) same) kept widens.places
      widens.kept widens.owners places room

  -- a queue that has its places and owners keeps the rest
  pub seated : (slab : Slab (Entry J)) (queue next : Queue) (parked : Chain)
      → IsKept slab queue parked → next.places ≡ queue.places → next.owners ≡ queue.owners
      → IsKept slab next parked
  seated slab queue next parked kept places owners =
      wider slab slab queue next
      parked parked (λ q. refl) kept places (omega (arith, ap length owners)) (λ place within.
      ap (λ os. owner_at (record queue { owners = os }) place) owners) refl (omega arith)
