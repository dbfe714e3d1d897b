-- The kinds of request frame: the kind byte, the length and the payload of each. Assumes nothing.
use Rattle.std.specs.Prelude.{ℕ, zero, suc, ◌+◌, ◌*◌, cond, List, [], ◌∷◌, length, Some, None, Ok, Err, Option, Result, ◌==◌, slice_index}
use Rattle.frames.specs.declared.faults.FrameFault.{FrameFault}
use Rattle.frames.specs.declared.faults.FrameFault.TheVariants.{UnknownKind, WrongLength}
use Rattle.frames.specs.declared.request.Request.{Request}
use Rattle.frames.specs.declared.request.Request.TheVariants.{Open, Arm, Cancel, Advance, Close, ArmByPurpose}

-- the big-endian number of n bytes from place i on
abbrev pub field : List ℕ → ℕ → ℕ → ℕ
field bs i zero = 0
field bs i (suc n) = field bs i n * 256 + slice_index bs (i + n)

-- a kind of frame: its first byte, the bytes of the whole frame, and what it asks for
pub record Kind : Type 0 where
  pub first : ℕ
  pub size : ℕ
  pub asks : List ℕ → Request

abbrev pub open_kind : Kind
open_kind = record { first = 1; size = 12; asks = λ bs. Open (field bs 1 1) (field bs 2 1) (field bs 3 8) }

abbrev pub arm_kind : Kind
arm_kind = record { first = 2; size = 22; asks = λ bs. Arm (field bs 1 4) (field bs 5 8) (field bs 13 8) }

abbrev pub cancel_kind : Kind
cancel_kind = record { first = 3; size = 6; asks = λ bs. Cancel (field bs 1 4) }

abbrev pub advance_kind : Kind
advance_kind = record { first = 4; size = 10; asks = λ bs. Advance (field bs 1 8) }

abbrev pub close_kind : Kind
close_kind = record { first = 5; size = 2; asks = λ bs. Close }

abbrev pub purpose_kind : Kind
purpose_kind = record { first = 6; size = 7; asks = λ bs. ArmByPurpose (field bs 1 4) (field bs 5 1) }

abbrev pub kinds : List Kind
kinds = open_kind ∷ arm_kind ∷ cancel_kind ∷ advance_kind ∷ close_kind ∷ purpose_kind ∷ []

-- the kind that has this first byte
abbrev pub kind_of : ℕ → List Kind → Option Kind
kind_of b [] = None
kind_of b (k ∷ ks) = cond (b == k.first) (Some k) (kind_of b ks)

-- what bytes ask for as a frame of one kind
abbrev pub asked_as : Kind → List ℕ → Result Request FrameFault
asked_as k bs = cond (length bs == k.size) (Ok (k.asks bs)) (Err WrongLength)

abbrev pub asked : Option Kind → List ℕ → Result Request FrameFault
asked None bs = Err UnknownKind
asked (Some k) bs = asked_as k bs

-- what the bytes of a frame, check byte included, ask for
unfoldable pub frame_request : List ℕ → Result Request FrameFault
frame_request bs = asked (kind_of (slice_index bs 0) kinds) bs
