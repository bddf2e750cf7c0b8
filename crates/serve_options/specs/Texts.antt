-- How addresses, the values that an option may have and the four-letter words are written.
use Rattle.std.specs.Prelude.{ℕ, ◌^◌, ◌-◌, ◌==◌, List, ◌++◌, Bool, nat_eq, if◌then◌else◌, codes}
use Rattle.std.specs.List.{list_any}
use Rattle.std.specs.Fmt.{decimal}
use Rattle.serve_options.specs.declared.row.Kind.{Kind}
use Rattle.serve_options.specs.declared.row.Kind.TheVariants as kinds

abbrev pub has_colon : List ℕ → Bool
has_colon text = list_any (λ letter. letter == 58) text

-- A host that has colons, as those of IPv6 have, is in brackets.
abbrev pub place_text : List ℕ → List ℕ → List ℕ
place_text host port =
    if has_colon host then codes "[" ++ host ++ codes "]:" ++ port else host ++ codes ":" ++ port

abbrev pub address_text : List ℕ → ℕ → List ℕ
address_text host port = place_text host (decimal port)

abbrev pub kind_text : Kind → List ℕ
kind_text kinds.Nothing = codes "no value"
kind_text kinds.Address = codes "PORT or HOST:PORT"
kind_text kinds.Addresses = codes "1 to 64 of HOST:PORT, with commas between"
kind_text kinds.Words =
    codes "all, none, or some of ruok,isro,srvr,stat,mntr,conf,envi,dirs,wchs,wchp,wchc,dump,cons,crst,srst"
kind_text (kinds.Number bounds) =
    if nat_eq bounds.most (2 ^ 64 - 1) then codes "at least " ++ decimal bounds.least
    else decimal bounds.least ++ codes " to " ++ decimal bounds.most
kind_text kinds.File = codes "the name of a file"
kind_text kinds.Level = codes "off, error, warn, info or debug"
kind_text kinds.Format = codes "text or json"
kind_text kinds.Release = codes "3.4 or 3.8"
kind_text kinds.Digest = codes "a user, a colon and SHA-1 of `USER:PASSWORD` in base64"
