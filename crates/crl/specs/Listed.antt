-- Whether a serial is listed: some entry's serial has the same contents octets.
use Rattle.std.specs.Prelude.{ℕ, Bool, true, false, cond, List, [], ◌∷◌}
use Rattle.der.specs.Forms.{Forms}
use Rattle.elements.specs.declared.elements.Element.{Element}
use Rattle.octets.specs.Alike.{alike}
use Rattle.elements.specs.Elements.{found_tagged, on_found, members_of, contents_of}

-- the entry's INTEGER has those contents
unfoldable pub lists : Forms → List ℕ → List ℕ → Element → Bool
lists forms s serial e = on_found (found_tagged forms s e.contents e.end 0x02) false λ own. alike (contents_of s own) serial

unfoldable pub some_lists : Forms → List ℕ → List ℕ → List Element → Bool
some_lists forms s serial [] = false
some_lists forms s serial (e ∷ rest) = cond (lists forms s serial e) true (some_lists forms s serial rest)

-- among the entries in a stretch of the CRL
unfoldable pub listed_of : Forms → List ℕ → ℕ → ℕ → List ℕ → Bool
listed_of forms s from end serial = some_lists forms s serial (members_of forms s from end)
