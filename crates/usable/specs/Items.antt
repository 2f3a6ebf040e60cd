-- The items that chains stand on: a list of items by place, each judged in the role of its kind.
use Rattle.std.specs.Prelude.{ℕ, zero, suc, Bool, false, ◌&&◌, ◌||◌, List, [], leb, length, get_or, take, drop, Result, Ok, Err}
use Rattle.der.specs.Forms.{paper}
use Rattle.certificate.specs.declared.Fields as certificate
use Rattle.refusal.specs.declared.Refusal.{Refusal}
use Rattle.certificate.specs.declared.Fields.{Fields}
use Rattle.certificate.specs.Answer.{judged_of}
use Rattle.crl.specs.declared.Fields as list
use Rattle.crl.specs.Answer as lists
use Rattle.image.specs.Items.{Item}

-- the item of a place; none has kind 0
unfoldable pub item_at : List Item → ℕ → Item
item_at items place = get_or items place (record { kind = 0; flags = 0; bytes = []; first = 0; second = 0 })

-- a test of the certificate at a place, which passes for its kind
unfoldable pub on_certificate : Result Fields Refusal → (certificate.Fields → Bool) → Bool
on_certificate (Err refusal) test = false
on_certificate (Ok fields) test = test fields

unfoldable pub certificate_at : List Item → ℕ → (certificate.Fields → Bool) → Bool
certificate_at items place test = on_certificate (judged_of (item_at items place).bytes (item_at items place).kind) test

-- a test of the CRL at a place, which passes
unfoldable pub on_list : Result list.Fields Refusal → (list.Fields → Bool) → Bool
on_list (Err refusal) test = false
on_list (Ok fields) test = test fields

unfoldable pub list_at : List Item → ℕ → (list.Fields → Bool) → Bool
list_at items place test = on_list (lists.judged_of paper (item_at items place).bytes) test

-- some of so many places meets a test
unfoldable pub some_below : ℕ → (ℕ → Bool) → Bool
some_below zero test = false
some_below (suc n) test = test n || some_below n test

unfoldable pub some_place : List Item → (ℕ → Bool) → Bool
some_place items test = some_below (length items) test

-- from a first moment to a last, ends counted
unfoldable pub within : ℕ → ℕ → ℕ → Bool
within first last moment = leb first moment && leb moment last

-- the octets of an item's part
unfoldable pub part_of : List Item → ℕ → ℕ → ℕ → List ℕ
part_of items place at size = take size (drop at (item_at items place).bytes)
