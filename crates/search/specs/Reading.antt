-- What a search reads and finds: entries and runs judged, their hits counted and kept, and what is still to be read. Assumes nothing.
use Rattle.std.specs.Prelude.{◌≡◌, Bool, true, false, ◌&&◌, List, [], ◌∷◌, ◌++◌, ℕ, ◌+◌, ◌-◌, ◌*◌, ◌≤◌, ◌<◌, length, Option, MatchOption}
use Rattle.std.proofs.lemmas.List.Edits.{sets}
use Rattle.laws.specs.Lists.{filter, each, part}
use Rattle.rules.specs.Sizes.{most_tiles, most_entries, bad_sizes, bad_point}
use Rattle.rules.specs.Tables.{Tables, run_at, good_runs}
use Rattle.rules.specs.Search.{allowed_run, allowed_runs, visits, is_hit, hit_writes}
use Rattle.tables.specs.Entries.{good_entries}
use Rattle.rules.specs.declared.Grid.{Grid}
use Rattle.rules.specs.declared.Point.{Point}
use Rattle.grid.specs.Places.{is_on}
use Rattle.rules.specs.declared.Part.{Part}
use Rattle.search.specs.declared.runs.Held.{Held}

-- ---- what was judged before anything is read

-- the sizes and the point
pub record Placed (g : Grid) (q : Point) : Type 0 where
  pub sizes : bad_sizes g ≡ false
  pub point : bad_point g q ≡ false

-- the most entries that a tile's runs, a row's and the box's can have
abbrev pub tile_most : ℕ
tile_most = 16 * most_entries

abbrev pub row_most : ℕ
row_most = most_tiles * tile_most

abbrev pub box_most : ℕ
box_most = most_tiles * row_most

-- a mask has exactly the classes that are allowed in a tile
pub record Allows (g : Grid) (q : Point) (tile mask : ℕ) : Type 0 where
  pub rule : (class : ℕ) → class < 16 → is_on mask class ≡ allowed_run g q (16 * tile + class)

-- ---- hits kept in what is lent, while they fit

-- the numbers of hit c, at their place
unfoldable pub keep_hit : Grid → List ℕ → Point → ℕ → ℕ → List ℕ → List ℕ
keep_hit g reg q c i lent = sets lent c (hit_writes g reg q i)

-- hits one after the other, the first of them being hit c
unfoldable pub kept : (ℕ → ℕ → List ℕ → List ℕ) → ℕ → List ℕ → List ℕ → List ℕ
kept put c [] lent = lent
kept put c (i ∷ hits) lent = kept put (c + 1) hits (put c i lent)

-- ---- what is found

-- all was good exactly if the rest is, and the c hits that are found, with those of the rest, are all hits: counted and kept
pub record Left (put : ℕ → ℕ → List ℕ → List ℕ) (whole rest : Bool) (hits more : List ℕ) (c₀ c : ℕ) (lent₀ lent : List ℕ) : Type 0 where
  pub still : whole ≡ rest
  pub counts : c + length more ≡ c₀ + length hits
  pub keeps : kept put c more lent ≡ kept put c₀ hits lent₀

-- nothing is left: all was good, and all hits are counted and kept
pub record Found (put : ℕ → ℕ → List ℕ → List ℕ) (whole : Bool) (hits : List ℕ) (most c₀ : ℕ) (lent₀ : List ℕ) (c : ℕ) (lent : List ℕ) : Type 0 where
  pub left : Left put whole true hits [] c₀ c lent₀ lent
  pub few : c ≤ c₀ + most

-- damage, or the hits are found
abbrev pub Judged : (ℕ → ℕ → List ℕ → List ℕ) → Bool → List ℕ → ℕ → ℕ → List ℕ → Option ℕ → List ℕ → Type 0
Judged put whole hits most c₀ lent₀ found lent = MatchOption found (whole ≡ false) (λ c. Found put whole hits most c₀ lent₀ c lent)

-- ---- entries, and runs

abbrev pub hits_in : Grid → List ℕ → Point → ℕ → List ℕ → List ℕ
hits_in g reg q r l = filter (is_hit g reg q r) l

abbrev pub hits_of : Grid → Tables → Point → ℕ → List ℕ → List ℕ
hits_of g t q r ks = hits_in g t.reg q r (each (run_at t) ks)

-- the runs that are read of a list of tiles
unfoldable pub runs_in : Grid → Point → ℕ → List ℕ → List ℕ
runs_in g q r ts = each (allowed_runs g q) (filter (visits g q r) ts)

abbrev pub JudgedEntries : Grid → List ℕ → Point → ℕ → List ℕ → ℕ → ℕ → List ℕ → Option ℕ → List ℕ → Type 0
JudgedEntries g reg q r l most c₀ lent₀ found lent = Judged (keep_hit g reg q) (good_entries g reg l) (hits_in g reg q r l) most c₀ lent₀ found lent

abbrev pub JudgedRuns : Grid → Tables → Point → ℕ → List ℕ → ℕ → ℕ → List ℕ → Option ℕ → List ℕ → Type 0
JudgedRuns g t q r ks most c₀ lent₀ found lent = Judged (keep_hit g t.reg q) (good_runs g t ks) (hits_of g t q r ks) most c₀ lent₀ found lent

-- ---- a part held back

-- the entries of a part
abbrev pub entries_in : List ℕ → Part → List ℕ
entries_in entries p = part entries p.begin p.past

-- a part lies among the entries
pub record Lies (entries : List ℕ) (p : Part) : Type 0 where
  pub ordered : p.begin ≤ p.past
  pub inside : p.past ≤ length entries

-- all was good of a part that was held back and of runs ks
abbrev pub good_behind : Grid → Tables → List ℕ → Held → Bool
good_behind g t ks h = good_entries g t.reg (entries_in t.entries h.part) && good_runs g t ks

-- runs ks are read behind a part that was held back, h₀, and a part is held back again, h
pub record HeldBehind (g : Grid) (t : Tables) (q : Point) (r : ℕ) (ks : List ℕ) (h₀ : Held) (lent₀ : List ℕ) (h : Held) (lent : List ℕ) : Type 0 where
  pub left : Left (keep_hit g t.reg q) (good_behind g t ks h₀) (good_entries g t.reg (entries_in t.entries h.part))
      (hits_in g t.reg q r (entries_in t.entries h₀.part) ++ hits_of g t q r ks) (hits_in g t.reg q r (entries_in t.entries h.part)) h₀.count h.count lent₀ lent
  pub lies : Lies t.entries h.part
  pub few : h.count + (h.part.past - h.part.begin) ≤ h₀.count + (h₀.part.past - h₀.part.begin) + most_entries

-- damage, or a part is held back again
abbrev pub Holds : Grid → Tables → Point → ℕ → List ℕ → Held → List ℕ → Option Held → List ℕ → Type 0
Holds g t q r ks h₀ lent₀ held lent = MatchOption held (good_behind g t ks h₀ ≡ false) (λ h. HeldBehind g t q r ks h₀ lent₀ h lent)
