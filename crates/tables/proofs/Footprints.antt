-- Footprints one after the other: where their numbers stand, and the first that meets refusal 3. Assumes nothing.
use mathlib.Core.Path.{◌≡◌, sym, ◌∙◌}
use mathlib.Core.Bool.{Bool, true, false}
use mathlib.Core.List.{List}
use Prim.Native.Nat.{ℕ, ◌+◌, ◌-◌, ◌*◌, ◌≤◌, ◌<◌}
use native.Mathlib.Omega.{arith}
use lib.ListN.{length}
use Rattle.std.specs.Prelude.{Some, None}
use Rattle.laws.specs.Lists.{filter, from, up_to}
use Rattle.laws.proofs.Remaining.{next_left, none_left}
use Rattle.rules.specs.Register.{count}
use Rattle.tables.specs.First.{first_of, Sought}

-- a footprint's four numbers stand in the register
pub four_stand : (reg : List ℕ) (i : ℕ) → i < count reg → 4 * i + 4 ≤ length reg
unfolding count
four_stand reg i h = omega arith

module _ (p : ℕ → Bool) (n : ℕ) where
  pub sought_all : Sought p n 0
  sought_all = record { most = omega arith; rest = let e : n - 0 ≡ n = omega arith in rw e }

  pub sought_here : (i : ℕ) → Sought p n i → i < n → p i ≡ true → Some i ≡ first_of (filter p (up_to n))
  sought_here i s h e =
      let f : first_of (filter p (from i (n - i))) ≡ Some i = rw (next_left i n h, e) in
      sym f ∙ s.rest

  pub sought_on : (i : ℕ) → Sought p n i → i < n → p i ≡ false → Sought p n (i + 1)
  sought_on i s h e =
      let f : first_of (filter p (from i (n - i))) ≡ first_of (filter p (from (i + 1) (n - (i + 1)))) = rw (next_left i n h, e) in
      record { most = omega arith; rest = sym f ∙ s.rest }

  pub sought_out : (i : ℕ) → Sought p n i → n ≤ i → None ≡ first_of (filter p (up_to n))
  sought_out i s h =
      let f : first_of (filter p (from i (n - i))) ≡ None = rw (none_left i n h) in
      sym f ∙ s.rest
