-- What contracts see of a pipe.
use Rattle.std.specs.Prelude.{ℕ, ◌+◌, ◌-◌, ◌<◌, ◌≤◌, Bool, true, List, [], length, Option, None}
use Rattle.std.specs.Prelude.{refl}
use Rattle.std.specs.Coded.{Coded, code_by, coded×, coded_ℕ, coded_bool, coded_list, coded_option}
use Rattle.blocking_core.specs.Stores.{Stored}
use Rattle.blocking_pool.specs.Jobs.{JobNumber}

-- A pipe: what is inside, first the item that goes first; how many items it holds at most beside
-- those that it lent; how many it lent; which ends are open; and who is seated: the owner by its
-- waker, the job by its number.
pub record Pipe (X W : Type 0) : Type 0 where
  pub items : List X
  pub capacity : ℕ
  pub lent : ℕ
  pub is_owner_open : Bool
  pub is_job_open : Bool
  pub owner_seat : Option W
  pub job_seat : Option JobNumber

abbrev pub job_number_code : Coded JobNumber
job_number_code = code_by (ℕ × ℕ) (coded× coded_ℕ coded_ℕ) (λ no. (no.place, no.serial))
    (λ parts. record { place = parts.0; serial = parts.1 }) (λ _. refl)

abbrev pub pipe_code : {X W : Type 0} → Coded X → Coded W → Coded (Pipe X W)
pipe_code {X} {W} item waker =
    code_by (List X × (ℕ × (ℕ × (Bool × (Bool × (Option W × Option JobNumber))))))
    (coded× (coded_list item)
    (coded× coded_ℕ (coded× coded_ℕ (coded× coded_bool
    (coded× coded_bool (coded× (coded_option waker) (coded_option job_number_code)))))))
    (λ pipe. (
      pipe.items,
      (
        pipe.capacity,
        (
          pipe.lent,
          (pipe.is_owner_open, (pipe.is_job_open, (pipe.owner_seat, pipe.job_seat))),
        ),
      ),
    ))
    (λ parts. record {
      items = parts.0;
      capacity = parts.1.0;
      lent = parts.1.1.0;
      is_owner_open = parts.1.1.1.0;
      is_job_open = parts.1.1.1.1.0;
      owner_seat = parts.1.1.1.1.1.0;
      job_seat = parts.1.1.1.1.1.1;
    })
    (λ _. refl)

module _ {X W : Type 0} where
  -- nothing inside and nothing lent, both ends open, nobody seated
  abbrev pub empty_pipe : ℕ → Pipe X W
  empty_pipe capacity = record {
    items = [];
    capacity = capacity;
    lent = 0;
    is_owner_open = true;
    is_job_open = true;
    owner_seat = None;
    job_seat = None;
  }

  -- how many more items it holds
  abbrev pub room : Pipe X W → ℕ
  room pipe = pipe.capacity - length pipe.items

-- A pipe has a capacity of one at least, and what is inside with what is lent is never more.
pub record IsBounded {X : Type 0} (stored : Stored X) (lent : ℕ) : Type 0 where
  pub some : 0 < stored.capacity
  pub within : lent + length stored.items ≤ stored.capacity
