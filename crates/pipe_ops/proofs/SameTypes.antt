-- Types that are the same are equal.
use Rattle.std.proofs.Common.{◌≡◌, true, refl}
use Rattle.pipe_schema.specs.Cell.{eq_dtype}
use Rattle.pipe_schema.specs.declared.data_type.DataType.{DataType}
use Rattle.pipe_schema.specs.declared.data_type.DataType.TheVariants as dtype

int32 : (b : DataType) → eq_dtype dtype.Int32 b ≡ true → dtype.Int32 ≡ b
int32 dtype.Int32 h = refl
int32 dtype.Int64 h = cc
int32 dtype.UInt32 h = cc
int32 dtype.UInt64 h = cc
int32 dtype.Boolean h = cc
int32 dtype.String h = cc
int32 dtype.Binary h = cc
int32 dtype.Int128 h = cc

int64 : (b : DataType) → eq_dtype dtype.Int64 b ≡ true → dtype.Int64 ≡ b
int64 dtype.Int32 h = cc
int64 dtype.Int64 h = refl
int64 dtype.UInt32 h = cc
int64 dtype.UInt64 h = cc
int64 dtype.Boolean h = cc
int64 dtype.String h = cc
int64 dtype.Binary h = cc
int64 dtype.Int128 h = cc

uint32 : (b : DataType) → eq_dtype dtype.UInt32 b ≡ true → dtype.UInt32 ≡ b
uint32 dtype.Int32 h = cc
uint32 dtype.Int64 h = cc
uint32 dtype.UInt32 h = refl
uint32 dtype.UInt64 h = cc
uint32 dtype.Boolean h = cc
uint32 dtype.String h = cc
uint32 dtype.Binary h = cc
uint32 dtype.Int128 h = cc

uint64 : (b : DataType) → eq_dtype dtype.UInt64 b ≡ true → dtype.UInt64 ≡ b
uint64 dtype.Int32 h = cc
uint64 dtype.Int64 h = cc
uint64 dtype.UInt32 h = cc
uint64 dtype.UInt64 h = refl
uint64 dtype.Boolean h = cc
uint64 dtype.String h = cc
uint64 dtype.Binary h = cc
uint64 dtype.Int128 h = cc

boolean : (b : DataType) → eq_dtype dtype.Boolean b ≡ true → dtype.Boolean ≡ b
boolean dtype.Int32 h = cc
boolean dtype.Int64 h = cc
boolean dtype.UInt32 h = cc
boolean dtype.UInt64 h = cc
boolean dtype.Boolean h = refl
boolean dtype.String h = cc
boolean dtype.Binary h = cc
boolean dtype.Int128 h = cc

string : (b : DataType) → eq_dtype dtype.String b ≡ true → dtype.String ≡ b
string dtype.Int32 h = cc
string dtype.Int64 h = cc
string dtype.UInt32 h = cc
string dtype.UInt64 h = cc
string dtype.Boolean h = cc
string dtype.String h = refl
string dtype.Binary h = cc
string dtype.Int128 h = cc

binary : (b : DataType) → eq_dtype dtype.Binary b ≡ true → dtype.Binary ≡ b
binary dtype.Int32 h = cc
binary dtype.Int64 h = cc
binary dtype.UInt32 h = cc
binary dtype.UInt64 h = cc
binary dtype.Boolean h = cc
binary dtype.String h = cc
binary dtype.Binary h = refl
binary dtype.Int128 h = cc

int128 : (b : DataType) → eq_dtype dtype.Int128 b ≡ true → dtype.Int128 ≡ b
int128 dtype.Int32 h = cc
int128 dtype.Int64 h = cc
int128 dtype.UInt32 h = cc
int128 dtype.UInt64 h = cc
int128 dtype.Boolean h = cc
int128 dtype.String h = cc
int128 dtype.Binary h = cc
int128 dtype.Int128 h = refl

pub equal_dtypes : (a b : DataType) → eq_dtype a b ≡ true → a ≡ b
equal_dtypes dtype.Int32 b h = int32 b h
equal_dtypes dtype.Int64 b h = int64 b h
equal_dtypes dtype.UInt32 b h = uint32 b h
equal_dtypes dtype.UInt64 b h = uint64 b h
equal_dtypes dtype.Boolean b h = boolean b h
equal_dtypes dtype.String b h = string b h
equal_dtypes dtype.Binary b h = binary b h
equal_dtypes dtype.Int128 b h = int128 b h

pub dtype_itself : (a : DataType) → eq_dtype a a ≡ true
dtype_itself dtype.Int32 = refl
dtype_itself dtype.Int64 = refl
dtype_itself dtype.UInt32 = refl
dtype_itself dtype.UInt64 = refl
dtype_itself dtype.Boolean = refl
dtype_itself dtype.String = refl
dtype_itself dtype.Binary = refl
dtype_itself dtype.Int128 = refl
