-- What is kept of a disk that tells its moments.
use Rattle.std.proofs.Common.{inl, inr, ℕ, Option, None, Some}
use Rattle.fuxi_io.specs.Disks.{Told as Moments}
use Rattle.node_core.specs.Roles.{Role}
use Rattle.node_core.specs.NodeHalts.{FitsEither}
use Rattle.fuxi_node.specs.NodeEnds.{FromRest, FitsNow, FitsOneNow}
use Rattle.fuxi_node.specs.NodeProgress.{KeepsTold}

module _ {C : Type 0} (rests : C → ℕ → Option Moments → Type 0) (core : C) where
  pub keeps_same : (size : ℕ) (told : Option Moments) → KeepsTold rests core size core size told told
  keeps_same size None = tt
  keeps_same size (Some t) = λ r. r

  -- kept by one line, and known after the next
  pub known_on : (after : C) (size size' : ℕ) (Known : Moments → Type 0) (old mid new : Option Moments) → KeepsTold rests core size after size' old mid → FromRest rests after size' Known mid new → FromRest rests core size Known old new
  known_on after size size' Known None mid new h k = tt
  known_on after size size' Known (Some o) None new h k = absurd h
  known_on after size size' Known (Some o) (Some m) None h k = absurd k
  known_on after size size' Known (Some o) (Some m) (Some n) h k = λ r. k (h r)

  pub known_more : (size : ℕ) (Known More : Moments → Type 0) (old new : Option Moments) → ((t : Moments) → Known t → More t) → FromRest rests core size Known old new → FromRest rests core size More old new
  known_more size Known More None new f h = tt
  known_more size Known More (Some o) None f h = absurd h
  known_more size Known More (Some o) (Some n) f h = λ r. f n (h r)

  -- where it was left alone
  pub known_same : (size : ℕ) (Known : Moments → Type 0) (told : Option Moments) → ((t : Moments) → rests core size (Some t) → Known t) → FromRest rests core size Known told told
  known_same size Known None f = tt
  known_same size Known (Some t) f = f t

  module _ (fits : Role → Moments → Type 0) (halts : Role → Role → Moments → Type 0) (size : ℕ) (old new : Option Moments) where
    -- what fits one party fits it or another
    pub fits_first : (q p : Role) → FitsNow rests fits core size old new q → FitsOneNow rests fits halts core size old new q p
    fits_first q p h = known_more size (fits q) (FitsEither fits halts q p) old new (λ t f. inl f) h

    pub fits_second : (q p : Role) → FitsNow rests fits core size old new p → FitsOneNow rests fits halts core size old new q p
    fits_second q p h = known_more size (fits p) (FitsEither fits halts q p) old new (λ t f. inr (inl f)) h
