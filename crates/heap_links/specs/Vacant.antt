-- A slot as it is lent. Assumes nothing.
use Rattle.heap_links.specs.declared.slots.Slot.{Slot}

abbrev pub vacant : {A : Type 0} → A → Slot A
vacant filler = record {
  timer = record { number = 0; soft = filler; hard = filler };
  hard = record { at = 0; place = 0 };
  soft = record { at = 0; place = 0 };
}
