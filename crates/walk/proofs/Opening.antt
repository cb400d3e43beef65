-- Tables that are read outward from a point: refusals 1, 2 and 4 do not apply to them, and what is refused there is refused by start and ask. Assumes nothing.
use mathlib.Core.Path.{◌≡◌}
use mathlib.Core.Bool.{Bool, true, false}
use mathlib.Core.List.{List}
use Prim.Native.Nat.{ℕ}
use Rattle.rules.specs.Sizes.{bad_sizes, bad_point}
use Rattle.rules.specs.Tables.{Tables, bad_lengths}
use Rattle.rules.specs.Refusals.{Verdict, pass, refuse, judge}
use Rattle.rules.specs.Walk.{start_verdict, walk_point, ask_verdict}
use Rattle.rules.specs.declared.Grid.{Grid}
use Rattle.rules.specs.declared.Point.{Point}
use Rattle.rules.specs.declared.Refusal.{Refusal}
use Rattle.rules.specs.declared.Refusal.TheVariants.{Sizes, Lengths, Place}
use Rattle.rules.specs.declared.Walk.{Walk}
use Rattle.walk.specs.Outward.{point_verdict, Reads}
use Rattle.walk.specs.declared.ready.Outward.{Outward}

-- what is refused first is refused, whatever is judged after it
refused_first : (a b d : Bool) (v : Verdict) (why : Refusal) → judge a Sizes (judge b Lengths (judge d Place pass)) ≡ refuse why
    → judge a Sizes (judge b Lengths (judge d Place v)) ≡ refuse why
refused_first true b d v why e = e
refused_first false true d v why e = e
refused_first false false true v why e = e
refused_first false false false v why e = cc

module _ (g : Grid) (t : Tables) (why : Refusal) where
  pub start_unread : (q : Point) (front : List ℕ) → point_verdict g t q ≡ refuse why → start_verdict g t q front ≡ refuse why
  unfolding start_verdict
  start_unread q front e = refused_first (bad_sizes g) (bad_lengths g t) (bad_point g q) _ why e

  pub ask_unread : (w : Walk) (j : ℕ) (out : List ℕ) → point_verdict g t (walk_point w) ≡ refuse why → ask_verdict g t w j out ≡ refuse why
  unfolding ask_verdict
  ask_unread w j out e = refused_first (bad_sizes g) (bad_lengths g t) (bad_point g (walk_point w)) _ why e

module _ (g : Grid) (t : Tables) (q : Point) (w : Outward) (r : Reads g t q w) where
  pub read_sizes : bad_sizes g ≡ false
  read_sizes = rw r.grid at w.sizes

  pub read_lengths : bad_lengths g t ≡ false
  read_lengths = rw (r.grid, r.tables) at w.lengths

  pub read_point : bad_point g q ≡ false
  read_point = rw (r.grid, r.point) at w.point
