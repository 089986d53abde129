-- What a copy by the kit comes to, of a reader and a writer of this library.
use Rattle.std.specs.Prelude.{◌≡◌, ◌-◌, ◌^◌, ℕ, Bool, false, List, length, min}
use Rattle.blocking_io.specs.Polled.{ReaderPoll, WriterPoll}
use Rattle.blocking_tokio.specs.Reading.{Gives, MetEnd}
use Rattle.blocking_tokio.specs.Writing.{Takes, WasFlushed}

-- The reader was read to its end; the writer took all that it gave, in order and once, and was
-- flushed; and the count is how many bytes that were, or the greatest number of 64 bits.
pub record IsCopied {A B : Type 0} (reads : A → ReaderPoll → A → Type 0)
    (writes : B → WriterPoll → B → Type 0) (from : A) (to : B) (count : ℕ) : Type 0 where
  pub bytes : List ℕ
  pub end : A
  pub gave : Gives reads from bytes end
  pub ended : MetEnd reads end
  pub is_shut : Bool
  pub last : B
  pub took : Takes writes false to bytes is_shut last
  pub flushed : WasFlushed writes last
  pub counted : count ≡ min (length bytes) (2 ^ 64 - 1)
