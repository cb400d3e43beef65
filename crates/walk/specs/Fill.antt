-- Rows that are brought while room lasts: so much room and the waiting rows, or nothing that counts. Assumes nothing.
use Rattle.std.specs.Prelude.{◌≡◌, Bool, true, false, List, [], ◌∷◌, ℕ, zero, suc, ◌-◌, ◌≤◌, length, take, drop, Option, Some, None}
use Rattle.rules.specs.Front.{rows, insert}
use Rattle.rules.specs.Merge.{merged}
use Rattle.rules.specs.declared.Three.{Three}
use Rattle.walk.specs.declared.batch.Fill.{Fill}

abbrev pub fill : ℕ → ℕ → Fill
fill head count = record { head = head; count = count }

-- damage was met, or rows wait and so many more find room
pub data Got : Type 0 where
  lost : Got
  kept : ℕ → List Three → Got

-- one row more
abbrev pub add_to : Got → Three → Got
add_to lost t = lost
add_to (kept zero l) t = lost
add_to (kept (suc r) l) t = kept r (insert t l)

-- rows one after the other
unfoldable pub add_all : Got → List Three → Got
add_all g [] = g
add_all g (t ∷ new) = add_all (add_to g t) new

-- what an opening brings, unless it is damaged
abbrev pub brought : Got → Bool → List Three → Got
brought g true new = lost
brought g false new = add_all g new

-- the rows that wait: the batch's count as inserted already
unfoldable pub waits : List ℕ → List ℕ → ℕ → ℕ → List Three
waits front batch head count = merged (take count (rows batch)) (drop head (rows front))

-- what stands in the front and the batch
unfoldable pub stands : List ℕ → List ℕ → Fill → Got
stands front batch f = kept (f.head - f.count) (waits front batch f.head f.count)

-- the batch finds room in the front, and another row in the batch
pub record Safe (front batch : List ℕ) (f : Fill) : Type 0 where
  pub room : f.count ≤ f.head
  pub inside : f.head ≤ length (rows front)
  pub few : f.count ≤ 256
  pub wide : 256 ≤ length (rows batch)

-- so much stands
pub record Held (front batch : List ℕ) (f : Fill) (g : Got) : Type 0 where
  pub safe : Safe front batch f
  pub is : stands front batch f ≡ g

-- or damage was met
abbrev pub Filled : List ℕ → List ℕ → Option Fill → Got → Type 0
Filled front batch None g = lost ≡ g
Filled front batch (Some f) g = Held front batch f g
