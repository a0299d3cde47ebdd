-- The numbers and names of the errors.
use Rattle.std.specs.Prelude.{ℕ, List, [], ◌∷◌, Option, codes, find, ◌==◌}
use Rattle.v4l_const.specs.declared.errno.Errno.{Errno}
use Rattle.v4l_const.specs.declared.errno.Errno.TheVariants.{Enoent, Eio, Ebadf, Eagain, Enomem, Eacces, Efault, Ebusy, Einval, Enotty, Edeadlk, Emsgsize, Eopnotsupp}

-- Source: Linux, errno-base.h and errno.h
abbrev pub errno_number : Errno → ℕ
errno_number Enoent = 2
errno_number Eio = 5
errno_number Ebadf = 9
errno_number Eagain = 11
errno_number Enomem = 12
errno_number Eacces = 13
errno_number Efault = 14
errno_number Ebusy = 16
errno_number Einval = 22
errno_number Enotty = 25
errno_number Edeadlk = 35
errno_number Emsgsize = 90
errno_number Eopnotsupp = 95

-- Source: the same
abbrev pub errno_name : Errno → List ℕ
errno_name Enoent = codes "ENOENT"
errno_name Eio = codes "EIO"
errno_name Ebadf = codes "EBADF"
errno_name Eagain = codes "EAGAIN"
errno_name Enomem = codes "ENOMEM"
errno_name Eacces = codes "EACCES"
errno_name Efault = codes "EFAULT"
errno_name Ebusy = codes "EBUSY"
errno_name Einval = codes "EINVAL"
errno_name Enotty = codes "ENOTTY"
errno_name Edeadlk = codes "EDEADLK"
errno_name Emsgsize = codes "EMSGSIZE"
errno_name Eopnotsupp = codes "EOPNOTSUPP"

abbrev pub errnos : List Errno
errnos =
    Enoent ∷ Eio ∷ Ebadf ∷ Eagain ∷ Enomem ∷ Eacces ∷ Efault ∷ Ebusy ∷ Einval ∷ Enotty ∷ Edeadlk ∷
    Emsgsize ∷ Eopnotsupp ∷ []

-- the error that has a number
abbrev pub errno_of : ℕ → Option Errno
errno_of n = find (λ e. n == errno_number e) errnos
