-- Digest ids.
use Rattle.std.specs.Prelude.{ℕ, List, ◌∷◌, ◌++◌, take, Option, Some, None, if◌then◌else◌}
use Rattle.std.specs.List.{position}
use Rattle.std.specs.Option.{option_map}
use Rattle.std.specs.Str.{is_utf8}
use Rattle.sha1.specs.Sha1.{sha1}
use Rattle.base64.specs.GeneralPurpose.{encode_of}
use Rattle.base64.specs.Engines.{standard}
use Rattle.kp_model.specs.Colon.{is_colon}

-- what stands before the first colon, where there is one and that is text in UTF-8
unfoldable pub user_of : List ℕ → Option (List ℕ)
user_of auth = elim (position is_colon auth) [ None ↦ None | Some at ↦ if is_utf8 (take at auth) then Some (take at auth) else None ]

-- the SHA-1 of the bytes (FIPS 180-4) in base64 with the standard alphabet and padding (RFC 4648, section 4)
unfoldable pub hash_text : List ℕ → List ℕ
hash_text bytes = encode_of standard (sha1 bytes)

-- the id of the bytes `user:password`: the user, a colon, and the hash of the whole
unfoldable pub digest_id : List ℕ → Option (List ℕ)
digest_id auth = option_map (λ user. user ++ 58 ∷ hash_text auth) (user_of auth)
