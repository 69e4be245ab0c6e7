-- What the reader of paths makes of a text that is written out, as what the text is.
use Rattle.std.proofs.Common.{◌≡◌, ℕ, Bool, true, false, List, [], ◌∷◌, ◌++◌, length, nat_le, Option, Some, None, refl, inl}
use Rattle.std.specs.Str.{encode_utf8_all, chars, is_utf8}
use Rattle.std.proofs.lemmas.Bool.{leb-true}
use Rattle.std.proofs.lemmas.Str.{IsUtf8-from_is_utf8}
use Rattle.sdf_paths.specs.Paths.{IsReadAs}
use Rattle.sdf_paths.specs.Reader.{step, finish, after, Fails}
use Rattle.sdf_paths.specs.Refusal.{IsRefusedAt}
use Rattle.sdf_paths.specs.declared.element.Element.{Element}
use Rattle.sdf_paths.specs.declared.reader.Reader.{Reader}
use Rattle.sdf_paths.proofs.ParseExact.{is_read, is_refused}

abbrev pub ended : Option Reader → Option (List Element)
ended None = None
ended (Some r) = finish r

pub reads : (text : List ℕ) (path : List Element) → is_utf8 text ≡ true → nat_le (length text) 4096 ≡ true → ended (after (chars text)) ≡ Some path → IsReadAs text path
reads text path utf8 short done = by (after (chars text)) refl done
  where
    by : (r : Option Reader) → after (chars text) ≡ r → ended r ≡ Some path → IsReadAs text path
    by None ran done = absurd cc
    by (Some last) ran done = is_read text path (IsUtf8-from_is_utf8 text utf8) (record { last = last; ran = ran; done = done; short = leb-true (length text) 4096 short })

-- nothing is read with the next of these characters, or at the end
abbrev pub fails : Option Reader → List ℕ → Bool
fails None cs = false
fails (Some r) [] = elim (finish r) [ Some path ↦ false | None ↦ true ]
fails (Some r) (c ∷ cs) = elim (step r c) [ Some next ↦ false | None ↦ true ]

failing : (r : Reader) (cs : List ℕ) → fails (Some r) cs ≡ true → Fails r cs
failing r [] h = by (finish r) h
  where
    by : (o : Option (List Element)) → elim o [ Some path ↦ false | None ↦ true ] ≡ true → o ≡ None
    by (Some path) h = absurd cc
    by None h = refl
failing r (c ∷ cs) h = by (step r c) h
  where
    by : (o : Option Reader) → elim o [ Some next ↦ false | None ↦ true ] ≡ true → o ≡ None
    by (Some next) h = absurd cc
    by None h = refl

-- the text is these characters, and no path goes on behind the first of them
pub refuses : (text front back : List ℕ) (at : ℕ) → is_utf8 text ≡ true → text ≡ encode_utf8_all (front ++ back) → at ≡ length (encode_utf8_all front) → nat_le at 4096 ≡ true → fails (after front) back ≡ true → IsRefusedAt text at
refuses text front back at utf8 whole place short h = by (after front) refl h
  where
    by : (r : Option Reader) → after front ≡ r → fails r back ≡ true → IsRefusedAt text at
    by None ran h = absurd cc
    by (Some last) ran h =
        is_refused text at (IsUtf8-from_is_utf8 text utf8)
        (record { front = front; back = back; whole = whole; last = last; ran = ran; why = inl (place, (leb-true at 4096 short, failing last back h)) })
