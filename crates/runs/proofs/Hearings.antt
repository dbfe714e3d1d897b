-- A line that is heard is refused for no want of room, and not as one line too many.
use Rattle.std.proofs.Common.{◌≡◌, ℕ, Bool, true, false, cond, ltb, List, Some, None, Ok, Err, Option, Result, refl}
use Rattle.std.specs.Result.{result_map_both}
use Rattle.frames.specs.declared.faults.ReadFault.{ReadFault}
use Rattle.frames.specs.declared.faults.ReadFault.TheVariants.{Line as unread, Frame as unframed}
use Rattle.frames.specs.declared.request.Request.{Request}
use Rattle.frames.specs.declared.request.Request.TheVariants.{Open, Arm, Cancel, Advance, Close, ArmByPurpose}
use Rattle.frames.specs.Reading.{read_line}
use Rattle.times.specs.declared.faults.TimeFault.TheVariants.{NoSuchTime}
use Rattle.runs.specs.declared.faults.RunFault.{RunFault}
use Rattle.runs.specs.declared.faults.RunFault.TheVariants.{Time, NotNow, UnknownPurpose}
use Rattle.runs.specs.declared.opening.Device.{Device}
use Rattle.runs.specs.declared.opening.Opening.{Opening}
use Rattle.runs.specs.declared.opening.TimeKind.{TimeKind}
use Rattle.runs.specs.Accounts.{counts_line}
use Rattle.runs.specs.Hearing.{carried, request_of, and_then}
use Rattle.runs.specs.Opened.{Kind, step_in}
use Rattle.runs.specs.Opening.{kind_of, device_of, is_time, opening, opens}
use Rattle.runs.specs.Steps.{timer_of, advance_of, purposed, step_of}
use Rattle.runs.specs.Waiting.{opening_in}

abbrev pub Heard : {X : Type 0} → Result X RunFault → Type 0
Heard (Ok x) = Unit {0}
Heard (Err f) = counts_line f ≡ true

then_heard : {X Y : Type 0} (r : Result X RunFault) (k : X → Result Y RunFault) → Heard r → ((x : X) → Heard (k x)) → Heard (and_then r k)
then_heard (Ok x) k h g = g x
then_heard (Err f) k h g = h

mapped_heard : {X Y : Type 0} (r : Result X RunFault) (g : X → Y) → Heard r → Heard (result_map_both g (λ (f : RunFault). f) r)
mapped_heard (Ok x) g h = tt
mapped_heard (Err f) g h = h

cond_heard : {X : Type 0} (b : Bool) (r q : Result X RunFault) → Heard r → Heard q → Heard (cond b r q)
cond_heard true r q h k = h
cond_heard false r q h k = k

read_heard : (r : Result Request ReadFault) → Heard (result_map_both (λ q. q) carried r)
read_heard (Ok q) = tt
read_heard (Err (unread f)) = refl
read_heard (Err (unframed f)) = refl

request_heard : (line : List ℕ) → Heard (request_of line)
request_heard line = read_heard (read_line line)

opening_heard : (k : Option TimeKind) (d : Option Device) (start : ℕ) → Heard (opening k d start)
opening_heard None d start = refl
opening_heard (Some k) None start = refl
opening_heard (Some k) (Some d) start =
    cond_heard (is_time k start) (Ok (record { kind = k; device = d; start = start })) (Err (Time NoSuchTime)) tt refl

opens_heard : (q : Request) → Heard (opens q)
opens_heard (Open kind device start) = opening_heard (kind_of kind) (device_of device) start
opens_heard (Arm number soft hard) = refl
opens_heard (Cancel number) = refl
opens_heard (Advance to) = refl
opens_heard Close = refl
opens_heard (ArmByPurpose number purpose) = refl

pub waiting_heard : (s : Option Opening) (line : List ℕ) → Heard (opening_in s line)
waiting_heard (Some o) line = refl
waiting_heard None line = then_heard (request_of line) opens (request_heard line) opens_heard

module _ {A : Type 0} where
  timer_heard : (n : ℕ) (s h : Option A) → Heard (timer_of n s h)
  timer_heard n None h = refl
  timer_heard n (Some s) None = refl
  timer_heard n (Some s) (Some h) = tt

  advance_heard : (t : Option A) → Heard (advance_of t)
  advance_heard None = refl
  advance_heard (Some t) = tt

  step_heard : (reads : ℕ → Option A) (ahead : A → ℕ → A) (clock : A) (q : Request) → Heard (step_of reads ahead clock q)
  step_heard reads ahead clock (Open kind device start) = refl
  step_heard reads ahead clock (Arm n soft hard) = mapped_heard (timer_of n (reads soft) (reads hard)) _ (timer_heard n (reads soft) (reads hard))
  step_heard reads ahead clock (Cancel n) = tt
  step_heard reads ahead clock (Advance t) = advance_heard (reads t)
  step_heard reads ahead clock Close = tt
  step_heard reads ahead clock (ArmByPurpose n p) =
      mapped_heard (purposed (ahead clock) n p) _ (cond_heard (ltb p 12) _ (Err UnknownPurpose) tt refl)

  pub open_heard : (k : Kind A) (closing : Bool) (clock : A) (line : List ℕ) → Heard (step_in k closing clock line)
  open_heard k closing clock line =
      cond_heard closing (Err NotNow) (and_then (request_of line) (step_of k.reads k.ahead clock)) refl
      (then_heard (request_of line) (step_of k.reads k.ahead clock) (request_heard line) (step_heard k.reads k.ahead clock))
