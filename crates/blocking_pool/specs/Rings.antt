-- How a chain is kept: a ring of links. Node 0 is its beginning and its end, and place p has the
-- node p + 1. No public clause cites this file.
use Rattle.std.specs.Prelude.{◌≡◌, ℕ, zero, suc, ◌-◌, ◌<◌, ◌==◌, if◌then◌else◌, List, [], ◌∷◌}
use Rattle.std.specs.Prelude.{length, slice_index_or}
use Rattle.blocking_pool.specs.Lists.{IsOnce}
use Rattle.blocking_pool.specs.declared.pool.chain.Link.{Link}

-- a node that stands in no ring
abbrev pub loose : Link
loose = record { before = 0; after = 0 }

-- the node after this one
abbrev pub node_after : List Link → ℕ → ℕ
node_after links node = (slice_index_or links node loose).after

-- the node before this one
abbrev pub node_before : List Link → ℕ → ℕ
node_before links node = (slice_index_or links node loose).before

-- so many places, as the ring has them after this node
abbrev pub walk : List Link → ℕ → ℕ → List ℕ
walk links zero node = []
walk links (suc count) node = (node_after links node - 1) ∷ walk links count (node_after links node)

-- from this node on the ring leads through these places, and to its end
abbrev pub LeadsOn : (ℕ → ℕ) → ℕ → List ℕ → Type 0
LeadsOn after node [] = after node ≡ 0
LeadsOn after node (place ∷ places) = (after node ≡ suc place) × LeadsOn after (suc place) places

-- from the end the ring leads back through these places to this node
abbrev pub LeadsBack : (ℕ → ℕ) → ℕ → List ℕ → Type 0
LeadsBack before node [] = before 0 ≡ node
LeadsBack before node (place ∷ places) =
    (before (suc place) ≡ node) × LeadsBack before (suc place) places

-- each place has a link
abbrev pub AreWithin : ℕ → List ℕ → Type 0
AreWithin count [] = Unit {0}
AreWithin count (place ∷ places) = (suc place < count) × AreWithin count places

-- the links hold these places, in this order
pub record IsRing (links : List Link) (count : ℕ) : Type 0 where
  pub places : List ℕ
  pub on : LeadsOn (node_after links) 0 places
  pub back : LeadsBack (node_before links) 0 places
  pub once : IsOnce places
  pub within : AreWithin (length links) places
  pub counted : length places ≡ count

-- one node now follows another, and all else is as it was
pub record Joins (old new : List Link) (before after : ℕ) : Type 0 where
  pub on : (node : ℕ)
      → node_after new node ≡ (if node == before then after else node_after old node)
  pub back : (node : ℕ)
      → node_before new node ≡ (if node == after then before else node_before old node)
  pub count : length new ≡ length old

-- a node stands between the last one and the end
pub record IsInserted (old new : List Link) (node : ℕ) : Type 0 where
  pub between : List Link
  pub last : Joins old between (node_before old 0) node
  pub end : Joins between new node 0
